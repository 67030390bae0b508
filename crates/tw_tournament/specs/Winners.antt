-- How a tournament lies in one vector. No public clause cites this module.
--     power k      the length of a row whose winner is found in k rounds
--     leftmost p k      the first place of those that play for place p, k rounds before
use Rattle.std.specs.Prelude.{◌≡◌, ◌≢◌, ◌≤◌, ◌<◌, ◌+◌, ℕ, zero, suc, min, List, length, get_or}
use Rattle.tw_vtime.specs.Stamps.{never}

-- the winner at a place
abbrev pub at : List ℕ → ℕ → ℕ
at winners p = get_or winners p never

-- the earlier of the two that met for this place stands there
abbrev pub IsRightAt : List ℕ → ℕ → Type 0
IsRightAt winners p = at winners p ≡ min (at winners (p + p)) (at winners (p + p + 1))

-- at every place above the row
abbrev pub IsWon : List ℕ → ℕ → Type 0
IsWon winners row = (p : ℕ) → 1 ≤ p → p < row → IsRightAt winners p

-- but at one
abbrev pub IsWonBut : ℕ → List ℕ → ℕ → Type 0
IsWonBut q winners row = (p : ℕ) → 1 ≤ p → p < row → p ≢ q → IsRightAt winners p

abbrev pub power : ℕ → ℕ
power zero = 1
power (suc k) = power k + power k

abbrev pub leftmost : ℕ → ℕ → ℕ
leftmost p zero = p
leftmost p (suc k) = leftmost (p + p) k

abbrev pub IsPower : ℕ → Type 0
IsPower n = (k : ℕ) × (n ≡ power k)

-- so many places from n on play for place p
abbrev pub PlayFor : ℕ → ℕ → ℕ → Type 0
PlayFor p width n = (k : ℕ) × (width ≡ power k) × (n ≡ leftmost p k)

pub record IsPlayed (winners : List ℕ) (row count : ℕ) : Type 0 where
  pub size : length winners ≡ row + row
  pub length_is_power : IsPower row
  pub enough : count ≤ row
  pub bound : row ≤ 8589934592
  pub won : IsWon winners row
  pub ends : (p : ℕ) → row + count ≤ p → p < row + row → at winners p ≡ never
