-- The couplings of all models, as couplings of numbered ports.
use Rattle.std.specs.Prelude.{ℕ, ◌*◌, List, [], ◌∷◌, ◌++◌, map}
use Rattle.std.specs.List.{All, Contains}
use Rattle.std.specs.Ordering.{nat_cmp, ordering_then}
use Rattle.std.specs.declared.cmp.Ordering.{Ordering}
use Rattle.tw_nested.specs.Tree.{Model}
use Rattle.tw_nested.specs.Reach.{Edge, Rises, IsWithin}
use Rattle.tw_nested.specs.Paths.{IsEdge, edge_of}

-- by source and destination
abbrev pub edge_cmp : Edge → Edge → Ordering
edge_cmp a b = ordering_then (nat_cmp a.0 b.0) (nat_cmp a.1 b.1)

-- those that a model's couplings make
abbrev pub edges_of : ℕ → Model → List Edge
edges_of count m = map (edge_of count m) m.links

abbrev pub edges_in : ℕ → List Model → List Edge
edges_in count [] = []
edges_in count (m ∷ ms) = edges_of count m ++ edges_in count ms

-- exactly the couplings of the models, in the order of their sources, each leading upwards
pub record AreEdges (count : ℕ) (models : List Model) (edges : List Edge) : Type 0 where
  pub made : (e : Edge) → IsEdge count models e → Contains edges e
  pub known : (e : Edge) → Contains edges e → IsEdge count models e
  pub within : All (IsWithin (32 * count)) edges
  pub rises : Rises edges
