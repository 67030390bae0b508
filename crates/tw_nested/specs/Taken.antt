-- What a tree is taken apart into.
--     Taken prefix parts before after      these parts are added to the tables
--     TakenModel number prefix nested before after      a coupled model of this number and all in it are
use Rattle.std.specs.Prelude.{◌≡◌, ℕ, ◌+◌, List, [], ◌∷◌, ◌++◌, map, string_bytes}
use Rattle.tw_nested.specs.declared.tables.Coupled.{Coupled}
use Rattle.tw_nested.specs.declared.tables.Tables.{Tables}
use Rattle.tw_nested.specs.declared.tree.Nested.{Nested}
use Rattle.tw_nested.specs.Tree.{Model, Parts, atoms_from, coupled_from, flat_names, links_of, model_at, models_in, size, tree_of}

abbrev pub model_of : Coupled → Model
model_of c = record { number = c.number; parts = c.parts.items; links = c.links.items }

-- these parts are added to the tables, each atom's name after this prefix
pub record Taken {M : Type 0} (prefix : List ℕ) (parts : Parts M) (before after : Tables M) : Type 0 where
  pub count : after.count ≡ before.count + size parts
  pub names : map string_bytes after.names.items ≡ map string_bytes before.names.items ++ flat_names prefix parts
  pub models : after.models.items ≡ before.models.items ++ models_in parts
  pub atoms : after.atoms.items ≡ before.atoms.items ++ atoms_from before.count parts
  pub coupled : map model_of after.coupled.items ≡ map model_of before.coupled.items ++ coupled_from before.count parts

-- this coupled model and all in it are added, the model itself after the coupled models in it
pub record TakenModel {M : Type 0} (number : ℕ) (prefix : List ℕ) (nested : Nested M) (before after : Tables M) : Type 0 where
  pub count : after.count ≡ before.count + size (tree_of {M = M} nested)
  pub names : map string_bytes after.names.items ≡ map string_bytes before.names.items ++ flat_names prefix (tree_of {M = M} nested)
  pub models : after.models.items ≡ before.models.items ++ models_in (tree_of {M = M} nested)
  pub atoms : after.atoms.items ≡ before.atoms.items ++ atoms_from before.count (tree_of {M = M} nested)
  pub coupled : map model_of after.coupled.items ≡ map model_of before.coupled.items ++ coupled_from before.count (tree_of {M = M} nested) ++ model_at number before.count (tree_of {M = M} nested) (links_of {M = M} nested) ∷ []
