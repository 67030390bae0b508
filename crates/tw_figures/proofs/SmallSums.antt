-- A sum over ticks is no greater than so many times the greatest of its numbers.
use Rattle.std.proofs.Common.{ℕ, zero, suc, ◌+◌, ◌*◌, ◌<◌, ℤ, pos, ◌+ℤ◌, ◌-ℤ◌, ◌*ℤ◌, ◌≤ℤ◌, arith}
use Rattle.std.specs.Int.{w128}
use Rattle.std.specs.Prelude.{FitsSigned, negsuc}
use Rattle.std.proofs.lemmas.Int.{ints}
use Rattle.tw_figures.specs.Figures.{sum_over}
use Rattle.tw_figures.specs.Fitting.{IsSmall, MeansFit, SumsFit}

sum_within : (n : ℕ) (of : ℕ → ℤ) → ((t : ℕ) → t < n → IsSmall (of t))
    → ((pos 0 -ℤ pos (n * 18446744073709551616)) ≤ℤ sum_over n of) × (sum_over n of ≤ℤ pos (n * 18446744073709551616))
unfolding sum_over
sum_within zero of small = (omega (arith, ints), omega (arith, ints))
sum_within (suc n) of small =
    let before = sum_within n of (λ t l. small t (omega arith)) in
    let last = small n (omega arith) in
    let low = before.0 in let high = before.1 in let least = last.0 in let most = last.1 in
    (omega (arith, ints, low, least), omega (arith, ints, high, most))

fits_within : (z : ℤ) (m : ℕ) → (pos 0 -ℤ pos m) ≤ℤ z → z ≤ℤ pos m → m < 170141183460469231731687303715884105728 → FitsSigned w128 z
fits_within (pos n) m low high few = record { sfits = omega (arith, ints, high, few) }
fits_within (negsuc n) m low high few = record { sfits = omega (arith, ints, low, few) }

pub sums_fit : SumsFit
sums_fit ticks of short small =
    let within = sum_within ticks of small in
    fits_within (sum_over ticks of) (ticks * 18446744073709551616) within.0 within.1 (omega (arith, short))

pub means_fit : MeansFit
means_fit zero of last short small is_small =
    let low = is_small.0 in let high = is_small.1 in
    fits_within (pos 1000 *ℤ last) (1000 * 18446744073709551616) (omega (arith, ints, low)) (omega (arith, ints, high)) (omega arith)
means_fit (suc n) of last short small is_small =
    let within = sum_within (suc n) of small in
    let low = within.0 in let high = within.1 in
    let sum = sum_over (suc n) of in
    let most = 2000 * (suc n * 18446744073709551616) + suc n in (
      fits_within (pos 2000 *ℤ sum) most (omega (arith, ints, low)) (omega (arith, ints, high)) (omega (arith, short)),
      fits_within (pos 2000 *ℤ sum +ℤ pos (suc n)) most (omega (arith, ints, low)) (omega (arith, ints, high)) (omega (arith, short)),
    )
