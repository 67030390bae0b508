use Rattle.std.proofs.Common.{◌≡◌, ◌+◌}
use Rattle.serde_json.specs.View.{items_view}
use Rattle.tw_file_settings.specs.Reseeded.{component_reseeded}
use Rattle.tw_file_settings.proofs.Seeds.{mapped_to}
use Rattle.tw_file_settings.proofs.reseeding.+reseed.Given as goal

abbrev pub decreases-reseed_component : goal.decreases-reseed_component
decreases-reseed_component l = l.room + l.room

abbrev pub decreases-reseed_each : goal.decreases-reseed_each
decreases-reseed_each l = l.room + l.room + 1

-- those before have their seeds
abbrev pub invariant-reseed_each-loop-component : goal.invariant-reseed_each-loop-component
invariant-reseed_each-loop-component l =
    items_view l.components ≡ mapped_to (component_reseeded (items_view l.models) l.replication l.room) l.component-index (items_view l.fn.components)
