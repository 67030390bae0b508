use Rattle.std.proofs.Common.{◌≡◌, ◌+◌, drop, false}
use Rattle.tw_machine_text.specs.Machine.{weigh}
use Rattle.tw_machine_text.proofs.parsing.is_light.Given as goal

-- what is left of the weight and of the words
abbrev pub invariant-words : goal.invariant-words
invariant-words l = weigh l.chained (drop l.word-index l.words) + l.many ≡ weigh false l.words + l.left
