use Rattle.std.proofs.Common.{◌≡◌, ◌++◌, map, drop}
use Rattle.tw_nested.specs.Edges.{edges_in}
use Rattle.tw_nested.specs.Taken.{model_of}
use Rattle.tw_nested.proofs.edges.edges.Given as goal

abbrev pub invariant-loop-model : goal.invariant-loop-model
invariant-loop-model l = edges_in l.count (map model_of l.coupled) ≡ l.edges.items ++ edges_in l.count (map model_of (drop l.model-index l.coupled))
