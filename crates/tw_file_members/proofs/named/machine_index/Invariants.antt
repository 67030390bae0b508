use Rattle.std.proofs.Common.{◌≡◌, drop, map}
use Rattle.tw_machine_file.specs.Seen.{machine}
use Rattle.tw_file_members.specs.Named.{machine_index}
use Rattle.tw_file_members.proofs.named.machine_index.Given as goal

-- none of those before has the name
abbrev pub invariant-loop-index : goal.invariant-loop-index
invariant-loop-index l = machine_index l.index (map machine (drop l.index l.machines)) l.name ≡ machine_index 0 (map machine l.machines) l.name
