use Rattle.std.proofs.Common.{◌≡◌, ◌++◌, drop, map}
use Rattle.serde_json.specs.View.{view}
use Rattle.tw_machine_file.specs.Seen.{machine}
use Rattle.tw_machine_warnings.specs.Machines.{machines_warnings}
use Rattle.tw_machine_warnings.specs.Warning.{warning}
use Rattle.tw_machine_warnings.proofs.machines.add_machines.Given as goal

-- what has come, and what is to come
abbrev pub invariant-loop-index : goal.invariant-loop-index
invariant-loop-index l =
    map warning l.warnings.items ++ machines_warnings (view l.file) l.index (map machine (drop l.index l.machines))
    ≡ map warning l.fn.warnings.items ++ machines_warnings (view l.file) 0 (map machine l.machines)
