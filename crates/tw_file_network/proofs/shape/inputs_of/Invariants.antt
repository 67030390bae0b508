use Rattle.std.proofs.Common.{◌≡◌, map}
use Rattle.serde_json.specs.View.{items_view}
use Rattle.tw_file_network.specs.Shape.{all_read, input_of}
use Rattle.tw_file_network.specs.Draft.{input_view}
use Rattle.tw_file_network.proofs.Loops.{rest_read}
use Rattle.tw_file_network.proofs.shape.inputs_of.Given as goal

abbrev pub invariant-loop-value : goal.invariant-loop-value
invariant-loop-value l =
    all_read input_of (items_view l.values)
    ≡ rest_read input_of l.values (map input_view l.inputs.items) l.value-index
