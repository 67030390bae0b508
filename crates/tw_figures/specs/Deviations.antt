-- Means and standard deviations of values, in thousandths, from how many values there are, their sum and the sum of their squares.
--     IsMeanOfValues count sum mean      the mean, which there is where there is a value
--     spread count sum squares      the square of the standard deviation, times that of the number of values
--     IsRoot spread count n      n thousandths are the root of a spread, divided by the number of values
--     IsDeviation count sum squares deviation      the standard deviation, which there is where there is a value and a spread that is told
use Rattle.std.specs.Prelude.{◌≤◌, ◌*◌, ◌-◌, ◌⊎◌, ◌-ℤ◌, ◌*ℤ◌, ◌≤ℤ◌, ◌<ℤ◌, ℕ, ℤ, pos, Option, MatchOption, unsigned_abs}
use Rattle.tw_figures.specs.Shares.{IsThousandths}

-- a half is rounded up
abbrev pub IsMeanOfValues : ℤ → ℤ → Option ℤ → Type 0
IsMeanOfValues count sum mean = MatchOption mean (count ≤ℤ pos 0) (λ n. (pos 0 <ℤ count) × IsThousandths sum (unsigned_abs count) n)

-- the mean of the squares less the square of the mean, times the square of the number of values: whole
abbrev pub spread : ℤ → ℤ → ℤ → ℤ
spread count sum squares = count *ℤ squares -ℤ sum *ℤ sum

-- 2 ^ 105
abbrev pub spread_limit : ℕ
spread_limit = 40564819207303340847894502572032

-- the greatest n with (2 n - 1) count <= 2000 root(spread), where both sides are squared: a half is rounded up
pub record IsRoot (spread count n : ℕ) : Type 0 where
  pub within : ((2 * n - 1) * count) * ((2 * n - 1) * count) ≤ 4000000 * spread
  pub greatest : (m : ℕ) → ((2 * m - 1) * count) * ((2 * m - 1) * count) ≤ 4000000 * spread → m ≤ n

-- no values have a negative spread: then the sums have wrapped
abbrev pub IsDeviation : ℤ → ℤ → ℤ → Option ℕ → Type 0
IsDeviation count sum squares deviation =
    let all = spread count sum squares in
    MatchOption deviation
    ((count ≤ℤ pos 0) ⊎ (all <ℤ pos 0) ⊎ (pos spread_limit ≤ℤ all))
    (λ n. (pos 0 <ℤ count) × (pos 0 ≤ℤ all) × (all <ℤ pos spread_limit) × IsRoot (unsigned_abs all) (unsigned_abs count) n)
