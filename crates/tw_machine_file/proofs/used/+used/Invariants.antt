use Rattle.std.proofs.Common.{◌≡◌, ◌+◌, ◌*◌, drop}
use Rattle.std.specs.Prelude.{◌||◌}
use Rattle.serde_json.specs.View.{items_view}
use Rattle.tw_machine_file.specs.Used.{names_model, some_item, used_within}
use Rattle.tw_machine_file.proofs.used.+used.Given as goal

abbrev pub decreases-used_within : goal.decreases-used_within
decreases-used_within l = 2 * l.room

abbrev pub decreases-used_by_some : goal.decreases-used_by_some
decreases-used_by_some l = 2 * l.room + 1

-- none of those before does
abbrev pub invariant-used_by_some-loop-component : goal.invariant-used_by_some-loop-component
invariant-used_by_some-loop-component l =
    some_item (λ c. names_model l.name c || used_within l.name l.room c) (items_view (drop l.component-index l.components))
    ≡ some_item (λ c. names_model l.name c || used_within l.name l.room c) (items_view l.components)
