use Rattle.std.proofs.Common.{◌≡◌, ◌+◌, ◌≤◌, min, drop, map}
use Rattle.std.specs.Prelude.{string_bytes, sum_by}
use Rattle.serde_json.specs.View.{view}
use Rattle.tw_file_members.specs.Tables.{length_at}
use Rattle.tw_file_members.proofs.tables.lengths_at.Given as goal

-- what has come and what is to come
abbrev pub invariant-loop-name : goal.invariant-loop-name
invariant-loop-name l =
    record {
      rest : min (l.total + sum_by (λ name. length_at name (view l.component)) (map string_bytes (drop l.name-index l.names))) 1048577
          ≡ min (sum_by (λ name. length_at name (view l.component)) (map string_bytes l.names)) 1048577;
      small : l.total ≤ 1048577;
    }
