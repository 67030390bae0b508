use Rattle.std.proofs.Common.{◌≡◌, map}
use Rattle.serde_json.specs.View.{items_view}
use Rattle.tw_file_network.specs.Shape.{all_read, coupling_of}
use Rattle.tw_file_network.specs.Draft.{coupling_view}
use Rattle.tw_file_network.proofs.Loops.{rest_read}
use Rattle.tw_file_network.proofs.shape.couplings_of.Given as goal

abbrev pub invariant-loop-value : goal.invariant-loop-value
invariant-loop-value l =
    all_read coupling_of (items_view l.values)
    ≡ rest_read coupling_of l.values (map coupling_view l.couplings.items) l.value-index
