use Rattle.std.proofs.Common.{◌≡◌, drop, map}
use Rattle.std.specs.List.{list_any}
use Rattle.tw_machine_declaration.specs.Seen.{output}
use Rattle.tw_machine_warnings.specs.Texts.{in_output}
use Rattle.tw_machine_warnings.proofs.texts.in_outputs.Given as goal

-- it stands in none of those that have come
abbrev pub invariant-loop-entry : goal.invariant-loop-entry
invariant-loop-entry l = list_any (in_output l.sought) (map output (drop l.entry-index l.entries)) ≡ list_any (in_output l.sought) (map output l.entries)
