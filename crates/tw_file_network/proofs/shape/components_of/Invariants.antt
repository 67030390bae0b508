use Rattle.std.proofs.Common.{◌≡◌, [], map}
use Rattle.serde_json.specs.View.{items_view}
use Rattle.tw_file_network.specs.Shape.{all_read, component_of}
use Rattle.tw_file_network.specs.Draft.{component_view}
use Rattle.tw_file_network.proofs.Loops.{rest_read}
use Rattle.tw_file_network.proofs.shape.components_of.Given as goal

abbrev pub invariant-loop-value : goal.invariant-loop-value
invariant-loop-value l =
    all_read (component_of []) (items_view l.values)
    ≡ rest_read (component_of []) l.values (map component_view l.components.items) l.value-index
