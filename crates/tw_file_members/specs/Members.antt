-- The members of an object of a network file, read off its JSON value, each of its type.
--     has_members n d, has_items n d      an object has so many members, an array so many items
--     has_format f d, is_file n f d      it says that it is a file of this format; and it has so many members
--     text_at name d, count_at name d, value_at name d      a member that is a text, a number, a number that may have a sign
use Rattle.std.specs.Prelude.{◌==◌, ◌&&◌, ℕ, ℤ, List, [], Bool, false, Option, codes, option_and_then, unwrap_or}
use Rattle.std.specs.Str.{bytes_eq}
use Rattle.std.specs.Option.{option_map_or}
use Rattle.serde_json.specs.Data.{Data, Items, no_items}
use Rattle.serde_json.specs.Find.{get, as_number, as_u64, as_i64, as_str, as_array, as_object}
use Rattle.serde_json.specs.Events.{members_len, items_len}

-- an object with so many members; together with the members that are looked up: exactly these
abbrev pub has_members : ℕ → Data → Bool
has_members n d = option_map_or (λ ms. members_len ms == n) (as_object d) false

-- an array with so many items
abbrev pub has_items : ℕ → Data → Bool
has_items n d = option_map_or (λ ds. items_len ds == n) (as_array d) false

-- a number without a fraction, an exponent or a sign that fits 64 bits
abbrev pub count_of : Data → Option ℕ
count_of d = option_and_then as_u64 (as_number d)

-- a number without a fraction or an exponent that fits 64 bits with a sign
abbrev pub value_of : Data → Option ℤ
value_of d = option_and_then as_i64 (as_number d)

-- a member that is a text, a number
abbrev pub text_at : List ℕ → Data → Option (List ℕ)
text_at name d = option_and_then as_str (get name d)

abbrev pub count_at : List ℕ → Data → Option ℕ
count_at name d = option_and_then count_of (get name d)

abbrev pub value_at : List ℕ → Data → Option ℤ
value_at name d = option_and_then value_of (get name d)

-- the items of a member that is an array, a member that is a text; empty where they are not
abbrev pub items_in : List ℕ → Data → Items
items_in name d = unwrap_or (option_and_then as_array (get name d)) no_items

abbrev pub text_in : List ℕ → Data → List ℕ
text_in name d = unwrap_or (text_at name d) []

-- the member `format` is this text
abbrev pub has_format : List ℕ → Data → Bool
has_format format d = option_map_or (λ said. bytes_eq said format) (text_at (codes "format") d) false

-- the head of a file of this format: so many members, and the format
abbrev pub is_file : ℕ → List ℕ → Data → Bool
is_file n format d = has_members n d && has_format format d
