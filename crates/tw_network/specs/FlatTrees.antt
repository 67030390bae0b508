-- Trees whose parts are all atoms, and the network that is made of one.
--     IsFlatTree parts links components couplings      these parts and links are these components and their couplings
--     IfFlat root P      P, of the components and couplings that the parts and links of a tree are, where they are any
--     IsFlattened parts links ins limit n      the contents that are made of any tree of these parts and links
--     IsSameNetwork n m      the same contents, but for the order of the couplings
use Rattle.std.specs.Prelude.{ℕ, ◌≡◌, List, [], map}
use Rattle.std.specs.List.Sorted.{IsPermutation}
use Rattle.tw_nested.specs.declared.tree.Nested.{Nested}
use Rattle.tw_nested.specs.Tree.{Parts, Link, all_atoms, flat_names, links_of, models_in, tree_of}
use Rattle.tw_nested.specs.Whole.{AreCouplings, link_between}
use Rattle.tw_network.specs.Contents.{Contents, Input}
use Rattle.tw_theory.specs.Network.{Coupling}

pub record IsFlatTree {M : Type 0} (parts : Parts M) (links : List Link) (components : List (List ℕ × M)) (couplings : List Coupling) : Type 0 where
  pub atoms : parts ≡ all_atoms components
  pub between : links ≡ map link_between couplings

abbrev pub IfFlat : {M : Type 0} → Nested M → (List (List ℕ × M) → List Coupling → Type 0) → Type 0
IfFlat {M} root P = (components : List (List ℕ × M)) (couplings : List Coupling)
    → IsFlatTree (tree_of {M = M} root) (links_of {M = M} root) components couplings → P components couplings

pub record IsFlattened {M : Type 0} (parts : Parts M) (links : List Link) (ins : List Input) (limit : ℕ) (n : Contents M) : Type 0 where
  pub names : n.names ≡ flat_names [] parts
  pub models : n.models ≡ models_in parts
  pub couplings : AreCouplings parts links n.couplings
  pub inputs : n.inputs ≡ ins
  pub micro_limit : n.micro_limit ≡ limit

pub record IsSameNetwork {M : Type 0} (n m : Contents M) : Type 0 where
  pub names : n.names ≡ m.names
  pub models : n.models ≡ m.models
  pub couplings : IsPermutation m.couplings n.couplings
  pub inputs : n.inputs ≡ m.inputs
  pub micro_limit : n.micro_limit ≡ m.micro_limit
