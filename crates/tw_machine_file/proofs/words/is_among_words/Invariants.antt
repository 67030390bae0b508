use Rattle.std.proofs.Common.{◌≡◌, drop, map}
use Rattle.std.specs.List.{list_any}
use Rattle.tw_machine_declaration.specs.Seen.{value}
use Rattle.tw_machine_file.specs.Words.{is_again}
use Rattle.tw_machine_file.proofs.words.is_among_words.Given as goal

abbrev pub invariant-loop-other : goal.invariant-loop-other
invariant-loop-other l = list_any (is_again l.kinds (value l.word)) (map value (drop l.other-index l.before)) ≡ list_any (is_again l.kinds (value l.word)) (map value l.before)
