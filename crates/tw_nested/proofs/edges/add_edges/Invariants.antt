use Rattle.std.proofs.Common.{◌≡◌, ◌++◌, map, drop}
use Rattle.tw_nested.specs.Paths.{edge_of}
use Rattle.tw_nested.specs.Taken.{model_of}
use Rattle.tw_nested.proofs.edges.add_edges.Given as goal

abbrev pub invariant-loop-link : goal.invariant-loop-link
invariant-loop-link l = l.initial.edges.items ++ map (edge_of l.count (model_of l.model)) l.model.links.items ≡ l.edges.items ++ map (edge_of l.count (model_of l.model)) (drop l.link-index l.model.links.items)
