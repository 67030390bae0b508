use Rattle.std.proofs.Common.{◌≡◌, ◌+◌, ◌≤◌, min, drop, map}
use Rattle.std.specs.Prelude.{sum_by}
use Rattle.tw_machine_declaration.specs.Seen.{name}
use Rattle.tw_file_members.specs.Tables.{own}
use Rattle.tw_file_members.proofs.tables.own_numbers.Given as goal

-- what has come and what is to come
abbrev pub invariant-loop-named : goal.invariant-loop-named
invariant-loop-named l =
    record {
      rest : min (l.total + sum_by (λ n. own n.1) (map name (drop l.named-index l.names))) 1048577 ≡ min (sum_by (λ n. own n.1) (map name l.names)) 1048577;
      small : l.total ≤ 1048577;
    }
