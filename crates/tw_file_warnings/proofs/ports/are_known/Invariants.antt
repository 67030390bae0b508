use Rattle.std.proofs.Common.{◌≡◌, drop, map}
use Rattle.tw_machine_declaration.specs.Seen.{output}
use Rattle.tw_file_warnings.specs.Ports.{are_known}
use Rattle.tw_file_warnings.proofs.ports.are_known.Given as goal

-- each of those that have come is
abbrev pub invariant-loop-entry : goal.invariant-loop-entry
invariant-loop-entry l = are_known (map output (drop l.entry-index l.entries)) ≡ are_known (map output l.entries)
