-- The tree of a network, as contracts see it.
--     tree_of nested, links_of nested      the parts of a coupled model, and its couplings
--     parts_of parts      the parts that a vector of named parts shows
--     flat_names [] parts, models_in parts      the names and the models of all atoms, depth first
--     atoms_from 1 parts, coupled_from 1 parts      their numbers, and the coupled models, where the first part has number 1
--     levels, coupled_count, link_count      how deep a tree is, and how many coupled parts and couplings are in it
use Rattle.std.specs.Prelude.{ℕ, ◌+◌, List, [], ◌∷◌, ◌++◌, String, string_bytes, map, length, max, suc}
use Rattle.std.specs.declared.alloc.Global.{Global}
use Rattle.tw_nested.specs.declared.tree.End.{End}
use Rattle.tw_nested.specs.declared.tree.Nested.{Nested}
use Rattle.tw_nested.specs.declared.tree.Part.{Part, fold-Part}
use Rattle.tw_nested.specs.declared.tree.Part.TheOpen.{Part-F, Nested-F}

-- a coupling in a coupled model: source, its port, destination, its port
abbrev pub Link : Type 0
Link = End × ℕ × End × ℕ

-- parts in order, each an atom, or a coupled model with its own parts and couplings
pub data Parts (M : Type 0) : Type 0 where
  no_parts : Parts M
  atom : List ℕ → M → Parts M → Parts M
  coupled : List ℕ → Parts M → List Link → Parts M → Parts M

-- ---- the tree that the code's values show

abbrev pub parts_in : {M : Type 0} → List (String Global × (List ℕ → Parts M → Parts M)) → Parts M
parts_in [] = no_parts
parts_in (p ∷ ps) = p.1 (string_bytes p.0) (parts_in ps)

abbrev pub part_step : {M : Type 0} → Part-F M (List ℕ → Parts M → Parts M) (Parts M × List Link) → List ℕ → Parts M → Parts M
part_step (Part-F.Atom m) = λ name rest. atom name m rest
part_step (Part-F.Coupled n) = λ name rest. coupled name n.0 n.1 rest

abbrev pub nested_step : {M : Type 0} → Nested-F M (List ℕ → Parts M → Parts M) (Parts M × List Link) → Parts M × List Link
nested_step n = (parts_in n.parts.items, n.couplings.items)

abbrev pub part_view : {M : Type 0} → Part M → List ℕ → Parts M → Parts M
part_view {M} = fold-Part M (List ℕ → Parts M → Parts M) (Parts M × List Link) part_step nested_step

-- the parts that a vector of named parts shows
abbrev pub parts_of : {M : Type 0} → List (String Global × Part M) → Parts M
parts_of {M} ps = parts_in (map (λ p. (p.0, part_view {M = M} p.1)) ps)

-- a part of this name alone
abbrev pub only_part : {M : Type 0} → List ℕ → Part M → Parts M
only_part {M} name part = part_view {M = M} part name no_parts

-- the parts of a coupled model, and its couplings
abbrev pub tree_of : {M : Type 0} → Nested M → Parts M
tree_of {M} nested = parts_of {M = M} nested.parts.items

abbrev pub links_of : {M : Type 0} → Nested M → List Link
links_of nested = nested.couplings.items

-- ---- numbers: each part has one, depth first, in order of parts

-- how many parts there are at any level
abbrev pub size : {M : Type 0} → Parts M → ℕ
size no_parts = 0
size (atom name m rest) = suc (size rest)
size (coupled name inner links rest) = suc (size inner + size rest)

-- the numbers of these parts, the first of which has this number
abbrev pub numbers : {M : Type 0} → ℕ → Parts M → List ℕ
numbers n no_parts = []
numbers n (atom name m rest) = n ∷ numbers (n + 1) rest
numbers n (coupled name inner links rest) = n ∷ numbers (n + 1 + size inner) rest

-- the numbers of all atoms
abbrev pub atoms_from : {M : Type 0} → ℕ → Parts M → List ℕ
atoms_from n no_parts = []
atoms_from n (atom name m rest) = n ∷ atoms_from (n + 1) rest
atoms_from n (coupled name inner links rest) = atoms_from (n + 1) inner ++ atoms_from (n + 1 + size inner) rest

-- the models of all atoms
abbrev pub models_in : {M : Type 0} → Parts M → List M
models_in no_parts = []
models_in (atom name m rest) = m ∷ models_in rest
models_in (coupled name inner links rest) = models_in inner ++ models_in rest

-- the name of each atom: the names on its way, joined by dots, after what comes before them
abbrev pub flat_names : {M : Type 0} → List ℕ → Parts M → List (List ℕ)
flat_names prefix no_parts = []
flat_names prefix (atom name m rest) = (prefix ++ name) ∷ flat_names prefix rest
flat_names prefix (coupled name inner links rest) = flat_names (prefix ++ name ++ 46 ∷ []) inner ++ flat_names prefix rest

-- parts that are all atoms, of these names and models
abbrev pub all_atoms : {M : Type 0} → List (List ℕ × M) → Parts M
all_atoms [] = no_parts
all_atoms (c ∷ cs) = atom c.0 c.1 (all_atoms cs)

-- ---- how many there are

-- how many levels: the parts themselves are at level 1
abbrev pub levels : {M : Type 0} → Parts M → ℕ
levels no_parts = 0
levels (atom name m rest) = max 1 (levels rest)
levels (coupled name inner links rest) = max (1 + levels inner) (levels rest)

-- how many parts there are at level 1
abbrev pub part_count : {M : Type 0} → Parts M → ℕ
part_count no_parts = 0
part_count (atom name m rest) = part_count rest + 1
part_count (coupled name inner links rest) = part_count rest + 1

-- how many coupled parts at any level
abbrev pub coupled_count : {M : Type 0} → Parts M → ℕ
coupled_count no_parts = 0
coupled_count (atom name m rest) = coupled_count rest
coupled_count (coupled name inner links rest) = suc (coupled_count inner + coupled_count rest)

-- how many couplings the coupled parts have, at any level
abbrev pub link_count : {M : Type 0} → Parts M → ℕ
link_count no_parts = 0
link_count (atom name m rest) = link_count rest
link_count (coupled name inner links rest) = length links + link_count inner + link_count rest

-- ---- coupled models among all

-- a coupled model: its own number, those of its parts in order, its couplings
pub record Model : Type 0 where
  pub number : ℕ
  pub parts : List ℕ
  pub links : List Link

-- the model of this number and these parts, the first of which has this number
abbrev pub model_at : {M : Type 0} → ℕ → ℕ → Parts M → List Link → Model
model_at number n inner links = record { number = number; parts = numbers n inner; links = links }

-- all coupled models in these parts
abbrev pub coupled_from : {M : Type 0} → ℕ → Parts M → List Model
coupled_from n no_parts = []
coupled_from n (atom name m rest) = coupled_from (n + 1) rest
coupled_from n (coupled name inner links rest) = coupled_from (n + 1) inner ++ model_at n (n + 1) inner links ∷ coupled_from (n + 1 + size inner) rest
