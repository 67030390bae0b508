-- The remaining time that each model keeps, in ticks, none where it is passive; and how elapsed time changes it.
use Rattle.std.specs.Prelude.{ℕ, ◌+◌, ◌-◌, ◌%◌, ◌<◌, ◌≤◌, Option, Some, None, ⊤}

-- what is left after some time
abbrev pub minus : Option ℕ → ℕ → Option ℕ
minus None elapsed = None
minus (Some left) elapsed = Some (left - elapsed)

-- what was left before some time; it wraps at 2 ^ 64
abbrev pub plus : Option ℕ → ℕ → Option ℕ
plus None elapsed = None
plus (Some left) elapsed = Some ((left + elapsed) % 18446744073709551616)

-- a remaining time of 64 bits
abbrev pub FitsLeft : Option ℕ → Type 0
FitsLeft None = ⊤
FitsLeft (Some left) = left < 18446744073709551616

-- a time that does not go past what is left
abbrev pub IsWithin : ℕ → Option ℕ → Type 0
IsWithin elapsed None = ⊤
IsWithin elapsed (Some left) = elapsed ≤ left
