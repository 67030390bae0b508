use Rattle.std.proofs.Common.{◌≡◌, drop, map}
use Rattle.std.specs.List.{list_any}
use Rattle.tw_machine_declaration.specs.Seen.{output}
use Rattle.tw_file_warnings.specs.Ports.{is_on}
use Rattle.tw_file_warnings.proofs.ports.is_sent_on.Given as goal

-- none of those that have come is
abbrev pub invariant-loop-entry : goal.invariant-loop-entry
invariant-loop-entry l = list_any (is_on l.port) (map output (drop l.entry-index l.entries)) ≡ list_any (is_on l.port) (map output l.entries)
