-- Members of JSON objects.
--     text_at name d, items_at name d      a member that is a text; the items of a member that is an array, none of any other
--     is_named name d      the member `name` is this text
--     components_of d      the components of a model, where they are an array
--     with_at k e d      the object with the member k, or with this value for it; any other value as it is
use Rattle.std.specs.Prelude.{ℕ, List, Bool, false, Option, codes, option_and_then, unwrap_or}
use Rattle.std.specs.Option.{option_map_or}
use Rattle.std.specs.Str.{bytes_eq}
use Rattle.serde_json.specs.Data.{Data, Items, no_items, null, boolean, number, string, array, object, put}
use Rattle.serde_json.specs.Find.{as_array, as_str, get}

abbrev pub text_at : List ℕ → Data → Option (List ℕ)
text_at name d = option_and_then as_str (get name d)

abbrev pub items_at : List ℕ → Data → Items
items_at name d = unwrap_or (option_and_then as_array (get name d)) no_items

abbrev pub is_named : List ℕ → Data → Bool
is_named name d = option_map_or (λ own. bytes_eq own name) (text_at (codes "name") d) false

abbrev pub components_of : Data → Option Items
components_of d = option_and_then as_array (get (codes "components") d)

abbrev pub with_at : List ℕ → Data → Data → Data
with_at k e null = null
with_at k e (boolean b) = boolean b
with_at k e (number n) = number n
with_at k e (string s) = string s
with_at k e (array ds) = array ds
with_at k e (object ms) = object (put k e ms)
