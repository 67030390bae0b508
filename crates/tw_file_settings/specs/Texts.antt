-- The texts of assignments, COMPONENT.PARAMETER=VALUE.
--     IsWhole text n      the text writes a whole number as JSON does, of 64 bits with sign or without
--     IsAssignment text a      the text says an assignment
--     AreAssignments texts given      each says one, and no two set the same
use Rattle.std.specs.Prelude.{◌≡◌, ◌<◌, ◌==◌, ◌||◌, ◌⊎◌, ℕ, ℤ, List, [], ◌∷◌, Bool, false, length, map, ⊤}
use Rattle.std.specs.Fmt.{signed_decimal}
use Rattle.std.specs.Int.{w64, FitsUnsigned}
use Rattle.std.specs.Int.RustNames.{FitsSigned}
use Rattle.std.specs.List.{after_first, before_first, position_or_len}
use Rattle.std.specs.Str.{bytes_eq}
use Rattle.serde_json.specs.Data.{Num}
use Rattle.serde_json.specs.Find.{of_integer}
use Rattle.serde_json.specs.View.{number_view}
use Rattle.tw_file_settings.specs.declared.assignment.Assignment.{Assignment}

-- a decimal number: a minus where it is negative, no plus, and no zero before another digit
abbrev pub IsWhole : List ℕ → Num → Type 0
IsWhole text n = (z : ℤ) × (text ≡ signed_decimal z) × (FitsUnsigned w64 z ⊎ FitsSigned w64 z) × (n ≡ of_integer z)

abbrev pub is_equals : ℕ → Bool
is_equals b = b == 61

abbrev pub is_dot : ℕ → Bool
is_dot b = b == 46

-- such a byte stands in the text
abbrev pub Has : (ℕ → Bool) → List ℕ → Type 0
Has p text = position_or_len p text < length text

-- a target with a dot, the first `=`, and a whole number
abbrev pub IsAssignment : List ℕ → Assignment → Type 0
IsAssignment text a =
    Has is_equals text × (a.target.now ≡ before_first is_equals text) × Has is_dot a.target.now
    × IsWhole (after_first is_equals text) (number_view a.number)

-- each text says the assignment of its place
abbrev pub AreRead : List (List ℕ) → List Assignment → Type 0
AreRead [] [] = ⊤
AreRead [] (a ∷ given) = ⊥
AreRead (text ∷ texts) [] = ⊥
AreRead (text ∷ texts) (a ∷ given) = IsAssignment text a × AreRead texts given

abbrev pub targets_of : List Assignment → List (List ℕ)
targets_of given = map (λ a. a.target.now) given

-- one of the texts is this
abbrev pub is_in : List ℕ → List (List ℕ) → Bool
is_in text [] = false
is_in text (other ∷ others) = bytes_eq other text || is_in text others

-- one of them stands there again
abbrev pub has_twice : List (List ℕ) → Bool
has_twice [] = false
has_twice (text ∷ texts) = is_in text texts || has_twice texts

abbrev pub AreAssignments : List (List ℕ) → List Assignment → Type 0
AreAssignments texts given = AreRead texts given × (has_twice (targets_of given) ≡ false)
