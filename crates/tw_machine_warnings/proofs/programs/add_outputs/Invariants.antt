use Rattle.std.proofs.Common.{◌≡◌, ◌++◌, drop, map}
use Rattle.tw_machine_declaration.specs.Seen.{name, output}
use Rattle.tw_machine_warnings.specs.Machines.{outputs_warnings}
use Rattle.tw_machine_warnings.specs.Warning.{warning}
use Rattle.tw_machine_warnings.proofs.programs.add_outputs.Given as goal

-- what has come, and what is to come
abbrev pub invariant-loop-index : goal.invariant-loop-index
invariant-loop-index l =
    map warning l.warnings.items ++ outputs_warnings l.place l.timed l.draws (map name l.names) l.index (map output (drop l.index l.entries))
    ≡ map warning l.fn.warnings.items ++ outputs_warnings l.place l.timed l.draws (map name l.names) 0 (map output l.entries)
