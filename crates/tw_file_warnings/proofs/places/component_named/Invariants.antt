use Rattle.std.proofs.Common.{◌≡◌, drop}
use Rattle.serde_json.specs.View.{items_view}
use Rattle.tw_file_warnings.specs.Places.{component_named}
use Rattle.tw_file_warnings.proofs.places.component_named.Given as goal

-- none of those before has the name
abbrev pub invariant-loop-component : goal.invariant-loop-component
invariant-loop-component l = component_named (items_view l.components) l.name ≡ component_named (items_view (drop l.component-index l.components)) l.name
