-- What may be a name.
use Rattle.std.specs.Prelude.{ℕ, Bool, false, not, ◌&&◌, ◌||◌, ◌==◌, List, [], ◌∷◌, length, nat_le, codes}
use Rattle.std.specs.List.{list_all}
use Rattle.tw_machine_text.specs.Limits.{max_name}
use Rattle.tw_models.specs.Kinds.{is_kind_name}
use Rattle.tw_machine_text.specs.Letters.{same_text}
use Rattle.tw_machine_text.specs.Text.{is_digit, is_reserved, is_word}

abbrev pub is_among : List (List ℕ) → List ℕ → Bool
is_among [] text = false
is_among (name ∷ names) text = same_text name text || is_among names text

-- the members of a component that are no parameters
abbrev pub component_members : List (List ℕ)
component_members = codes "name" ∷ codes "model" ∷ codes "components" ∷ codes "couplings" ∷ []

-- it begins with no digit
abbrev pub is_letter : List ℕ → Bool
is_letter [] = false
is_letter (c ∷ cs) = not (is_digit c)

-- the words that no name is in a machine with timers
abbrev pub timed_words : List (List ℕ)
timed_words = codes "which" ∷ codes "start" ∷ codes "stop" ∷ codes "send" ∷ []

-- a word of the language that no name may be
abbrev pub is_taken : (timed : Bool) → List ℕ → Bool
is_taken timed text = is_reserved text || (timed && is_among timed_words text)

-- a letter or `_`, then letters, digits and `_`, at most 32; no word of the language
abbrev pub is_name : (timed : Bool) → List ℕ → Bool
is_name timed text = is_letter text && list_all is_word text && nat_le (length text) max_name && not (is_taken timed text)

-- of a parameter: no member of a component either
abbrev pub is_own_name : (timed : Bool) → List ℕ → Bool
is_own_name timed text = is_name timed text && not (is_among component_members text)

abbrev pub is_word_or_dash : ℕ → Bool
is_word_or_dash c = is_word c || c == 45

-- of a machine: 1 to 32 letters, digits, `_` and `-`; no name of a kind of built-in models
abbrev pub is_machine_name : List ℕ → Bool
is_machine_name text = nat_le 1 (length text) && nat_le (length text) max_name && list_all is_word_or_dash text && not (is_kind_name text)
