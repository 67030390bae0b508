use Rattle.std.proofs.Common.{◌≡◌, ◌+◌, ◌*◌, ◌++◌, drop, map}
use Rattle.serde_json.specs.View.{view, items_view}
use Rattle.tw_figure_names.specs.Said.{atom_or_within, of_all}
use Rattle.tw_figure_names.proofs.atoms.+walk.Given as goal

abbrev pub decreases-add_within : goal.decreases-add_within
decreases-add_within l = 3 * l.room

abbrev pub decreases-add_all : goal.decreases-add_all
decreases-add_all l = 3 * l.room + 2

abbrev pub decreases-add_component : goal.decreases-add_component
decreases-add_component l = 3 * l.room + 1

-- what has come and what is to come
abbrev pub invariant-add_all-loop-component : goal.invariant-add_all-loop-component
invariant-add_all-loop-component l =
    map (λ a. view a.now) l.atoms.items ++ of_all (atom_or_within l.room) (items_view (drop l.component-index l.components))
    ≡ map (λ a. view a.now) l.fn.atoms.items ++ of_all (atom_or_within l.room) (items_view l.components)
