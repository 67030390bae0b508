-- What relay and queue have in common: a list of values with room for so many, and the remaining time while it is not empty.
use Rattle.std.specs.Int.{w64}
use Rattle.std.specs.Prelude.{ℕ, ℤ, ◌+◌, ◌-◌, ◌%◌, List, [], ◌∷◌, map, take, length, Option, Some, None, ⊤, FitsSigned}
use Rattle.tw_atomic.specs.Atomic.{Bag}
use Rattle.tw_models.specs.Left.{minus, plus}

-- the values of a bag, in its order
abbrev pub values_of : Bag → List ℤ
values_of bag = map (λ item. item.1) bag

-- the values that find room beside those that are kept: the first ones
abbrev pub accepted_values : ℕ → List ℤ → Bag → List ℤ
accepted_values room kept bag = values_of (take (room - length kept) bag)

-- the count of dropped values, those among them that find no room; it wraps at 2 ^ 64
abbrev pub dropped_after : ℕ → List ℤ → ℕ → Bag → ℕ
dropped_after room kept dropped bag = (dropped + (length bag - (room - length kept))) % 18446744073709551616

-- that count before, where this many of the items found room
abbrev pub dropped_before : ℕ → ℕ → ℕ → ℕ
dropped_before dropped items accepted = (dropped + (18446744073709551616 - (items - accepted) % 18446744073709551616)) % 18446744073709551616

-- the time left after something came: a whole delay where nothing was kept
abbrev pub left_after : List ℤ → Option ℕ → ℕ → ℕ → Option ℕ
left_after [] left elapsed delay = Some delay
left_after (value ∷ values) left elapsed delay = minus left elapsed

-- the time left before something came: none where nothing was kept
abbrev pub left_before : List ℤ → Option ℕ → ℕ → Option ℕ
left_before [] left elapsed = None
left_before (value ∷ values) left elapsed = plus left elapsed

-- values of 64 bits
abbrev pub FitsValues : List ℤ → Type 0
FitsValues [] = ⊤
FitsValues (value ∷ values) = FitsSigned w64 value × FitsValues values

-- time is left exactly while something is kept
abbrev pub WaitsWith : List ℤ → Option ℕ → Type 0
WaitsWith [] None = ⊤
WaitsWith (value ∷ values) (Some left) = ⊤
WaitsWith [] (Some left) = ⊥
WaitsWith (value ∷ values) None = ⊥
