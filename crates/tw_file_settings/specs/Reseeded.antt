-- The seeds of a replication, in the JSON value of a network's file.
--     next_seed s p      from 1 on the number of place s that SplitMix64 gives from p
--     own_reseeded models s d      a component with the seed of replication s in place of its own, if it has one
--     reseeded s d      the same of all components of a file; replication 0 leaves them
use Rattle.std.specs.Prelude.{ℕ, zero, suc, ◌+◌, ◌*◌, ◌%◌, ◌^◌, ℤ, List, Bool, true, false, Option, None, Some, codes, option_and_then, option_map, unwrap_or, if◌then◌else◌}
use Rattle.std.specs.Int.{w64, cast_signed, cast_unsigned}
use Rattle.std.specs.Option.{option_map_or}
use Rattle.std.specs.Str.{bytes_eq}
use Rattle.serde_json.specs.Data.{Data, Items, no_items, item, number, array, unsigned}
use Rattle.serde_json.specs.Find.{as_i64, as_number, as_str, as_u64, of_integer}
use Rattle.tw_machine.specs.Random.{split_mix}
use Rattle.tw_file_settings.specs.Assigned.{member_changed}
use Rattle.tw_file_settings.specs.Members.{components_of, is_named, items_at, text_at, with_at}

-- ---- numbers

-- the state of SplitMix64 rises by the same number before each (Steele, Lea and Flood 2014)
abbrev pub next_seed : ℕ → ℕ → ℕ
next_seed zero p = p
next_seed (suc behind) p = split_mix ((p + behind * 0x9E3779B97F4A7C15 % 2 ^ 64) % 2 ^ 64)

-- as a number with sign
abbrev pub next_signed : ℕ → ℤ → ℤ
next_signed s z = cast_signed w64 (next_seed s (cast_unsigned w64 z))

-- ---- a component

-- a value with what is made of one of its members, where something is
abbrev pub member_or_same : List ℕ → (Data → Option Data) → Data → Data
member_or_same k f d = unwrap_or (member_changed k f d) d

-- hop's seed has no sign
abbrev pub hop_reseeded : ℕ → Data → Data
hop_reseeded s d = member_or_same (codes "seed") (λ e. option_map (λ p. number (unsigned (next_seed s p))) (option_and_then as_u64 (as_number e))) d

-- a machine's parameter has one
abbrev pub parameter_reseeded : ℕ → List ℕ → Data → Data
parameter_reseeded s name d = member_or_same name (λ e. option_map (λ z. number (of_integer (next_signed s z))) (option_and_then as_i64 (as_number e))) d

-- ---- the parameter that seeds a machine

abbrev pub is_among : List ℕ → Items → Bool
is_among name no_items = false
is_among name (item d ds) = if option_map_or (λ t. bytes_eq t name) (as_str d) false then true else is_among name ds

abbrev pub first_named : List ℕ → Items → Option Data
first_named name no_items = None
first_named name (item d ds) = if is_named name d then Some d else first_named name ds

-- its member `random`, where that is one of its parameters
abbrev pub seeding_parameter : Data → Option (List ℕ)
seeding_parameter machine =
    option_and_then (λ name. if is_among name (items_at (codes "parameters") machine) then Some name else None) (text_at (codes "random") machine)

-- ---- all components

abbrev pub model_reseeded : Items → ℕ → List ℕ → Data → Data
model_reseeded models s model d =
    if bytes_eq model (codes "hop") then hop_reseeded s d
    else option_map_or (λ name. parameter_reseeded s name d) (option_and_then seeding_parameter (first_named model models)) d

-- by its model, which is one of the file's machines or hop
abbrev pub own_reseeded : Items → ℕ → Data → Data
own_reseeded models s d = option_map_or (λ model. model_reseeded models s model d) (text_at (codes "model") d) d

abbrev pub items_map : (Data → Data) → Items → Items
items_map f no_items = no_items
items_map f (item d ds) = item (f d) (items_map f ds)

-- a model with each of its components changed
abbrev pub each_component : (Data → Data) → Data → Data
each_component f d = option_map_or (λ ds. with_at (codes "components") (array (items_map f ds)) d) (components_of d) d

-- and those in it, of no more levels than there is room for
abbrev pub component_reseeded : Items → ℕ → ℕ → Data → Data
component_reseeded models s zero d = own_reseeded models s d
component_reseeded models s (suc room) d = each_component (component_reseeded models s room) (own_reseeded models s d)

-- a JSON text of 127 levels has fewer than 64 levels of components
abbrev pub reseeded : ℕ → Data → Data
reseeded zero d = d
reseeded (suc behind) d = each_component (component_reseeded (items_at (codes "models") d) (suc behind) 63) d
