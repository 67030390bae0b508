-- What an entry of a machine's `words` is called.
--     squeezed text      a text with each run of blanks as one, and none at its ends
--     joined between texts      texts with another between each two
--     text_of d      what the entry of this value is called
use Rattle.std.specs.Prelude.{◌==◌, ◌||◌, ◌++◌, ◌∷◌, [], ℕ, List, Bool, true, false, codes, filter}
use Rattle.std.specs.Fmt.{signed_decimal}
use Rattle.std.specs.List.{flat_map, slice_split}
use Rattle.std.specs.Option.{option_map_or}
use Rattle.serde_json.specs.Data.{Data}
use Rattle.serde_json.specs.Find.{as_str}
use Rattle.tw_file_members.specs.Members.{value_of}

-- a space, a tab, a line end or a carriage return
abbrev pub is_blank : ℕ → Bool
is_blank c = c == 32 || c == 9 || c == 10 || c == 13

abbrev pub joined : List ℕ → List (List ℕ) → List ℕ
joined between [] = []
joined between (text ∷ texts) = text ++ flat_map (λ t. between ++ t) texts

-- what stands between blanks
abbrev pub some_text : List ℕ → Bool
some_text [] = false
some_text (c ∷ cs) = true

abbrev pub words_in : List ℕ → List (List ℕ)
words_in text = filter some_text (slice_split is_blank text)

unfoldable pub squeezed : List ℕ → List ℕ
squeezed text = joined (codes " ") (words_in text)

-- before a letter that is parted from those before it, if there are any
abbrev pub parted : Bool → List ℕ → List ℕ
parted is_parted [] = []
parted false (c ∷ cs) = c ∷ cs
parted true (c ∷ cs) = (c ∷ cs) ++ codes " "

abbrev pub digits_of : Data → List ℕ
digits_of d = option_map_or signed_decimal (value_of d) []

-- a text by itself, a whole number by its digits
abbrev pub text_of : Data → List ℕ
text_of d = option_map_or squeezed (as_str d) (digits_of d)
