use Rattle.std.proofs.Common.{◌≡◌, ◌+◌, drop}
use Rattle.tw_machine_text.specs.Tree.{heads}
use Rattle.tw_machine_text.proofs.parsing.is_short.Given as goal

-- what has come and what is to come
abbrev pub invariant-loop-word : goal.invariant-loop-word
invariant-loop-word l = heads (drop l.word-index l.words) + 4096 ≡ heads l.words + l.left
