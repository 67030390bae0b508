use Rattle.std.proofs.Common.{map, sym, subst, List}
use Rattle.std.specs.List.Sorted.{IsPermutation}
use Rattle.tw_nested.specs.Reach.{Edge}
use Rattle.tw_nested.specs.Edges.{edges_in}
use Rattle.tw_nested.specs.Paths.{IsModel}
use Rattle.tw_nested.specs.Taken.{model_of}
use Rattle.tw_nested.proofs.EdgesMade.{are_edges, at_mapped, all_in}
use Rattle.tw_nested.proofs.edges.edges.Goals as goal

pub add_edges-requires-clause-model : goal.add_edges-requires-clause-model
add_edges-requires-clause-model c = at_mapped (IsModel c.args.count) model_of c.args.coupled.now c.loop-model.model-index c.model-item.result c.requires.models c.loop-model-test.true c.model-item.is

pub returns : goal.returns
returns c =
    let all = all_in c.args.count model_of c.args.coupled.now c.loop-model.model-index c.loop-model.edges.items (edges_in c.args.count (map model_of c.args.coupled.now)) c.loop-model-test.false c.loop-model.invariant in
    are_edges c.args.count (map model_of c.args.coupled.now) c.in_order.result.items c.requires.models
    (subst (λ (es : List Edge). IsPermutation es c.in_order.result.items) (sym all) c.in_order.ensures.same)
    c.in_order.ensures.in_order
