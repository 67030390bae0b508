-- Which machines the components of a file use.
--     is_used file name      a component of the file, or of a model in it, names the model of this name
use Rattle.std.specs.Prelude.{ℕ, zero, suc, List, Bool, false, ◌||◌, codes, option_and_then}
use Rattle.std.specs.Option.{option_map_or}
use Rattle.std.specs.Str.{bytes_eq}
use Rattle.serde_json.specs.Data.{Data, Items, no_items, item}
use Rattle.serde_json.specs.Find.{as_array, as_str, get}

-- a component's member `model` is this text
abbrev pub names_model : List ℕ → Data → Bool
names_model name d = option_map_or (λ model. bytes_eq model name) (option_and_then as_str (get (codes "model") d)) false

abbrev pub some_item : (Data → Bool) → Items → Bool
some_item test no_items = false
some_item test (item d ds) = test d || some_item test ds

-- in a model, of no more levels than there is room for
abbrev pub used_within : List ℕ → ℕ → Data → Bool
used_within name zero d = false
used_within name (suc room) d =
    option_map_or (some_item (λ c. names_model name c || used_within name room c)) (option_and_then as_array (get (codes "components") d)) false

-- a JSON text nests no deeper than 127 levels, so it has no more than 63 levels of components
abbrev pub is_used : Data → List ℕ → Bool
is_used file name = used_within name 64 file
