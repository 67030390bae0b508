-- A number in the place of a parameter's, in the JSON value of a network's file.
--     parameter_set name n d      a component with the number for its parameter, if it has such a parameter
--     path_set path n d      a model, with the number for a parameter of a component in it
--     assigned target n d      the same by the target's text
use Rattle.std.specs.Prelude.{ℕ, ◌+◌, ◌||◌, List, [], ◌∷◌, Bool, Option, None, Some, codes, is_some, option_and_then, option_map, if◌then◌else◌}
use Rattle.std.specs.List.{slice_split}
use Rattle.std.specs.Str.{bytes_eq}
use Rattle.serde_json.specs.Data.{Data, Num, Items, no_items, item, number, array}
use Rattle.serde_json.specs.Find.{as_array, get}
use Rattle.tw_file_settings.specs.Members.{components_of, is_named, with_at}
use Rattle.tw_file_settings.specs.Texts.{is_dot}

-- ---- a component

-- what says what a component is, and no parameter
abbrev pub is_kept : List ℕ → Bool
is_kept name =
    bytes_eq name (codes "name") || bytes_eq name (codes "model")
    || bytes_eq name (codes "components") || bytes_eq name (codes "couplings")

-- a list stays one
abbrev pub number_for : Num → Data → Option Data
number_for n e = if is_some (as_array e) then None else Some (number n)

-- a value with what is made of one of its members, if it has it and something is made of it
abbrev pub member_changed : List ℕ → (Data → Option Data) → Data → Option Data
member_changed k f d = option_and_then (λ e. option_map (λ new. with_at k new d) (f e)) (get k d)

-- the component has a model, and this parameter
abbrev pub parameter_set : List ℕ → Num → Data → Option Data
parameter_set name n d =
    if is_kept name then None
    else if is_some (get (codes "model") d) then member_changed name (number_for n) d else None

-- ---- a model

-- the place of the first component of a name, counted from a place on
abbrev pub place_named : ℕ → List ℕ → Items → Option ℕ
place_named i name no_items = None
place_named i name (item d ds) = if is_named name d then Some i else place_named (i + 1) name ds

-- its first component of a name changed
abbrev pub first_changed : List ℕ → (Data → Option Data) → Items → Option Items
first_changed name f no_items = None
first_changed name f (item d ds) =
    if is_named name d then option_map (λ e. item e ds) (f d) else option_map (item d) (first_changed name f ds)

abbrev pub component_changed : List ℕ → (Data → Option Data) → Data → Option Data
component_changed name f d =
    option_and_then (λ ds. option_map (λ new. with_at (codes "components") (array new) d) (first_changed name f ds)) (components_of d)

-- ---- by the path

-- the names on the way from the root to a component, and then a parameter
abbrev pub path_set : List (List ℕ) → Num → Data → Option Data
path_set [] n d = None
path_set (name ∷ []) n d = parameter_set name n d
path_set (name ∷ next ∷ path) n d = component_changed name (path_set (next ∷ path) n) d

abbrev pub assigned : List ℕ → Num → Data → Option Data
assigned target n d = path_set (slice_split is_dot target) n d
