-- Pieces of JSON.
--     quoted text      a text between quotation marks; a quotation mark, a backslash and a control character are escaped
--     object_text members, array_text items      JSON's brackets, and a comma between each two
--     member name value      a member of an object: its name, which needs no escape, and its value
use Rattle.std.specs.Prelude.{◌==◌, ◌++◌, ◌+◌, ◌∷◌, ◌/◌, ◌%◌, [], ℕ, List, chars, codes, encode_utf8, flat_map, nat_lt, if◌then◌else◌}
use Rattle.std.specs.List.{join_by}

-- a digit of a hexadecimal number, 0 to 9 and a to f
abbrev pub hex_digit : ℕ → ℕ
hex_digit n = if nat_lt n 10 then 48 + n else 87 + n

-- 34 is a quotation mark, 92 a backslash; a control character is escaped by its number, as \u001f
abbrev pub escaped_letter : ℕ → List ℕ
escaped_letter c =
    if c == 34 then 92 ∷ 34 ∷ []
    else if c == 92 then 92 ∷ 92 ∷ []
    else if nat_lt c 32 then 92 ∷ codes "u00" ++ hex_digit (c / 16) ∷ hex_digit (c % 16) ∷ []
    else encode_utf8 c

abbrev pub escaped : List ℕ → List ℕ
escaped text = flat_map escaped_letter (chars text)

abbrev pub quoted : List ℕ → List ℕ
quoted text = 34 ∷ escaped text ++ 34 ∷ []

abbrev pub behind_comma : List ℕ → List ℕ
behind_comma text = codes "," ++ text

abbrev pub with_commas : List (List ℕ) → List ℕ
with_commas texts = join_by (λ text. text) (codes ",") texts

abbrev pub array_text : List (List ℕ) → List ℕ
array_text items = codes "[" ++ with_commas items ++ codes "]"

abbrev pub object_text : List (List ℕ) → List ℕ
object_text members = codes "{" ++ with_commas members ++ codes "}"

abbrev pub member : List ℕ → List ℕ → List ℕ
member name value = 34 ∷ name ++ 34 ∷ 58 ∷ value
