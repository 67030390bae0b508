-- Means and shares, in thousandths, a half rounded up.
--     IsThousandths sum ticks n      n thousandths are the sum divided by so many ticks
--     IsMean sum last ticks n      the mean of a figure over so many ticks
--     IsShare busy last ticks n      the share of these in which it was not 0
--     FitsThousandths sum ticks, FitsMean sum last ticks      they are computed in 128 bits
use Rattle.std.specs.Int.{w128}
use Rattle.std.specs.Prelude.{◌≡◌, ◌*◌, ◌+ℤ◌, ◌*ℤ◌, ◌≤ℤ◌, FitsSigned, ℕ, zero, suc, ℤ, pos, if◌then◌else◌}
use Rattle.std.specs.Ordering.{int_eq}

-- the greatest whole number n with 2000 sum + ticks >= 2 ticks n
pub record IsThousandths (sum : ℤ) (ticks : ℕ) (n : ℤ) : Type 0 where
  pub within : (pos (2 * ticks) *ℤ n) ≤ℤ (pos 2000 *ℤ sum +ℤ pos ticks)
  pub greatest : (m : ℤ) → (pos (2 * ticks) *ℤ m) ≤ℤ (pos 2000 *ℤ sum +ℤ pos ticks) → m ≤ℤ n

-- where no tick was, the last value
abbrev pub IsMean : ℤ → ℤ → ℕ → ℤ → Type 0
IsMean sum last zero n = n ≡ pos 1000 *ℤ last
IsMean sum last (suc ticks) n = IsThousandths sum (suc ticks) n

abbrev pub IsShare : ℕ → ℤ → ℕ → ℤ → Type 0
IsShare busy last zero n = n ≡ (if int_eq last (pos 0) then pos 0 else pos 1000)
IsShare busy last (suc ticks) n = IsThousandths (pos busy) (suc ticks) n

-- what is divided, and what is on the way to it
abbrev pub FitsThousandths : ℤ → ℕ → Type 0
FitsThousandths sum ticks = FitsSigned w128 (pos 2000 *ℤ sum) × FitsSigned w128 (pos 2000 *ℤ sum +ℤ pos ticks)

abbrev pub FitsMean : ℤ → ℤ → ℕ → Type 0
FitsMean sum last zero = FitsSigned w128 (pos 1000 *ℤ last)
FitsMean sum last (suc ticks) = FitsThousandths sum (suc ticks)
