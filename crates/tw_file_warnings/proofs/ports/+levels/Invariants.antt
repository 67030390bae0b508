use Rattle.std.proofs.Common.{◌≡◌, ◌+◌, ◌*◌, ◌++◌, drop, map}
use Rattle.serde_json.specs.View.{view, items_view}
use Rattle.tw_machine_file.specs.Seen.{machine}
use Rattle.tw_machine_warnings.specs.Warning.{warning}
use Rattle.tw_file_warnings.specs.Places.{component_place, of_each, path_in, prefix_in}
use Rattle.tw_file_warnings.specs.Ports.{level_warnings, loose_warnings}
use Rattle.tw_file_warnings.proofs.ports.+levels.Given as goal

abbrev pub decreases-add_level : goal.decreases-add_level
decreases-add_level l = 3 * l.level.room

abbrev pub decreases-add_components : goal.decreases-add_components
decreases-add_components l = 3 * l.level.room + 2

abbrev pub decreases-add_component : goal.decreases-add_component
decreases-add_component l = 3 * l.level.room + 1

-- what has come, and what is to come
abbrev pub invariant-add_components-loop-index : goal.invariant-add_components-loop-index
invariant-add_components-loop-index l =
    map warning l.warnings.items
    ++ of_each (λ i c. loose_warnings (map machine l.machines) (view l.level.model.now) (component_place l.level.path.now l.level.prefix.now i c) c
    ++ level_warnings (map machine l.machines) l.level.room (path_in l.level.path.now i) (prefix_in l.level.prefix.now c) c) l.index (items_view (drop l.index l.components))
    ≡ map warning l.fn.warnings.items
    ++ of_each (λ i c. loose_warnings (map machine l.machines) (view l.level.model.now) (component_place l.level.path.now l.level.prefix.now i c) c
    ++ level_warnings (map machine l.machines) l.level.room (path_in l.level.path.now i) (prefix_in l.level.prefix.now c) c) 0 (items_view l.components)
