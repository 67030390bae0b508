-- Sums that fit.
--     IsSmall v      a number of 64 bits, with a sign or without
--     SumsFit      over the ticks of a run such numbers have a sum of 128 bits
--     MeansFit      and their mean is computed in 128 bits
use Rattle.std.specs.Int.{w128}
use Rattle.std.specs.Prelude.{◌≤◌, ◌<◌, ◌-ℤ◌, ◌≤ℤ◌, FitsSigned, ℕ, ℤ, pos}
use Rattle.tw_vtime.specs.Stamps.{max_tick}
use Rattle.tw_figures.specs.Figures.{sum_over}
use Rattle.tw_figures.specs.Shares.{FitsMean}

abbrev pub IsSmall : ℤ → Type 0
IsSmall v = ((pos 0 -ℤ pos 18446744073709551616) ≤ℤ v) × (v ≤ℤ pos 18446744073709551616)

abbrev pub SumsFit : Type 0
SumsFit = (ticks : ℕ) (of : ℕ → ℤ) → ticks ≤ max_tick → ((t : ℕ) → t < ticks → IsSmall (of t)) → FitsSigned w128 (sum_over ticks of)

abbrev pub MeansFit : Type 0
MeansFit = (ticks : ℕ) (of : ℕ → ℤ) (last : ℤ) → ticks ≤ max_tick → ((t : ℕ) → t < ticks → IsSmall (of t)) → IsSmall last → FitsMean (sum_over ticks of) last ticks
