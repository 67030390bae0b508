use Rattle.std.proofs.Common.{◌≡◌, ◌+◌, ◌≤◌, min, drop, map}
use Rattle.std.specs.Prelude.{sum_by}
use Rattle.tw_machine_file.specs.Seen.{machine}
use Rattle.tw_file_members.specs.Tables.{own_numbers}
use Rattle.tw_file_members.proofs.tables.all_own_numbers.Given as goal

-- what has come and what is to come
abbrev pub invariant-loop-machine : goal.invariant-loop-machine
invariant-loop-machine l =
    record {
      rest : min (l.total + sum_by own_numbers (map machine (drop l.machine-index l.machines))) 1048577 ≡ min (sum_by own_numbers (map machine l.machines)) 1048577;
      small : l.total ≤ 1048577;
    }
