use Rattle.std.proofs.Common.{◌≡◌, ◌+◌, ◌*◌, ◌≤◌, min, drop, map}
use Rattle.serde_json.specs.View.{items_view}
use Rattle.tw_machine_file.specs.Seen.{machine}
use Rattle.tw_file_members.specs.Tables.{component_numbers, given_within, items_sum}
use Rattle.tw_file_members.proofs.tables.+within.Given as goal

abbrev pub decreases-given_within : goal.decreases-given_within
decreases-given_within l = 3 * l.room

abbrev pub decreases-given_by_all : goal.decreases-given_by_all
decreases-given_by_all l = 3 * l.room + 2

abbrev pub decreases-given_by : goal.decreases-given_by
decreases-given_by l = 3 * l.room + 1

-- what has come and what is to come
abbrev pub invariant-given_by_all-loop-component : goal.invariant-given_by_all-loop-component
invariant-given_by_all-loop-component l =
    record {
      rest : min (l.total + items_sum (λ c. component_numbers (map machine l.machines) c + given_within (map machine l.machines) l.room c) (items_view (drop l.component-index l.components))) 1048577
          ≡ min (items_sum (λ c. component_numbers (map machine l.machines) c + given_within (map machine l.machines) l.room c) (items_view l.components)) 1048577;
      small : l.total ≤ 1048577;
    }
