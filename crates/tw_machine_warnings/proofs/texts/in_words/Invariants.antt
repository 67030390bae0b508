use Rattle.std.proofs.Common.{◌≡◌, drop, map}
use Rattle.std.specs.List.{list_any}
use Rattle.tw_machine_declaration.specs.Seen.{value}
use Rattle.tw_machine_warnings.specs.Texts.{in_value}
use Rattle.tw_machine_warnings.proofs.texts.in_words.Given as goal

-- it stands in none of those that have come
abbrev pub invariant-loop-word : goal.invariant-loop-word
invariant-loop-word l = list_any (in_value l.sought) (map value (drop l.word-index l.words)) ≡ list_any (in_value l.sought) (map value l.words)
