-- The flat couplings of a tree, by its paths.
--     all_models root      all coupled models of a tree, each by its number
--     IsCoupling parts links k      a path leads along k, from an atom to an atom
--     AreCouplings parts links flat      flat is exactly these, none twice, and no more than 8,192
use Rattle.std.specs.Prelude.{◌≢◌, ◌<◌, ◌≤◌, List, [], ◌∷◌, ◌++◌, length, slice_index}
use Rattle.std.specs.List.{All, AllPairs, Contains}
use Rattle.tw_nested.specs.declared.tree.End.TheVariants.{Part}
use Rattle.tw_nested.specs.Tree.{Parts, Link, Model, atoms_from, coupled_from, model_at}
use Rattle.tw_nested.specs.Flat.{Coupling}
use Rattle.tw_nested.specs.Paths.{Path, IsLink}

-- the root has number 0, and its first part 1
abbrev pub all_models : {M : Type 0} → Parts M → List Link → List Model
all_models parts links = coupled_from 1 parts ++ model_at 0 1 parts links ∷ []

-- no coupling of a model is at fault
abbrev pub AreLinked : {M : Type 0} → Parts M → List Link → Type 0
AreLinked parts links = All (λ m. All (IsLink m) m.links) (all_models parts links)

pub record IsCoupling {M : Type 0} (parts : Parts M) (links : List Link) (k : Coupling) : Type 0 where
  pub source : k.0 < length (atoms_from 1 parts)
  pub source_port : k.1 < 16
  pub destination : k.2 < length (atoms_from 1 parts)
  pub destination_port : k.3 < 16
  pub path : Path (all_models parts links) (slice_index (atoms_from 1 parts) k.0) k.1 (slice_index (atoms_from 1 parts) k.2) k.3

-- exactly the couplings along which a path leads, none twice
pub record AreCouplings {M : Type 0} (parts : Parts M) (links : List Link) (flat : List Coupling) : Type 0 where
  pub sound : All (IsCoupling parts links) flat
  pub whole : (k : Coupling) → IsCoupling parts links k → Contains flat k
  pub once : AllPairs (λ a b. a ≢ b) flat
  pub few : length flat ≤ 8192

-- there are more than 8,192
pub record AreTooMany {M : Type 0} (parts : Parts M) (links : List Link) : Type 0 where
  pub some : List Coupling
  pub sound : All (IsCoupling parts links) some
  pub once : AllPairs (λ a b. a ≢ b) some
  pub many : 8192 < length some

-- a coupling of parts, by their places
abbrev pub link_between : Coupling → Link
link_between k = (Part k.0, k.1, Part k.2, k.3)
