use Rattle.std.proofs.Common.{◌≡◌, ◌+◌, ◌*◌, ◌++◌, drop, map}
use Rattle.serde_json.specs.View.{items_view}
use Rattle.tw_machine_file.specs.Seen.{machine}
use Rattle.tw_file_warnings.specs.Places.{component_place, of_each, path_in, prefix_in}
use Rattle.tw_file_warnings.specs.Starts.{own_start, starts_within}
use Rattle.tw_file_warnings.specs.StartViews.{start}
use Rattle.tw_file_warnings.proofs.starts.+starts.Given as goal

abbrev pub decreases-add_within : goal.decreases-add_within
decreases-add_within l = 3 * l.level.room

abbrev pub decreases-add_all : goal.decreases-add_all
decreases-add_all l = 3 * l.level.room + 2

abbrev pub decreases-add_component : goal.decreases-add_component
decreases-add_component l = 3 * l.level.room + 1

-- what has come, and what is to come
abbrev pub invariant-add_all-loop-index : goal.invariant-add_all-loop-index
invariant-add_all-loop-index l =
    map start l.starts.items
    ++ of_each (λ i c. own_start (map machine l.machines) (component_place l.level.path.now l.level.prefix.now i c) c
    ++ starts_within (map machine l.machines) l.level.room (path_in l.level.path.now i) (prefix_in l.level.prefix.now c) c) l.index (items_view (drop l.index l.components))
    ≡ map start l.fn.starts.items
    ++ of_each (λ i c. own_start (map machine l.machines) (component_place l.level.path.now l.level.prefix.now i c) c
    ++ starts_within (map machine l.machines) l.level.room (path_in l.level.path.now i) (prefix_in l.level.prefix.now c) c) 0 (items_view l.components)
