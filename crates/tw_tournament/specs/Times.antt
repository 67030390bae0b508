-- What contracts see of a tournament: its times, by number.
--     numbers_at t c xs      the numbers of those that are at this time, where the first has number c
--     IsFirst xs t c      t is the first of all times, and before the end; c is the least number that is at it
--     NoneFirst xs      all are the end
use Rattle.std.specs.Prelude.{◌≡◌, ◌<◌, ◌≤◌, ◌⊎◌, ℕ, suc, ◌==◌, List, [], ◌∷◌, if◌then◌else◌, Some, slice_get}
use Rattle.tw_vtime.specs.Stamps.{never}

pub record Times : Type 0 where
  pub times : List ℕ

abbrev pub numbers_at : ℕ → ℕ → List ℕ → List ℕ
numbers_at t c [] = []
numbers_at t c (x ∷ xs) = if x == t then c ∷ numbers_at t (suc c) xs else numbers_at t (suc c) xs

pub record IsFirst (xs : List ℕ) (t c : ℕ) : Type 0 where
  pub at : slice_get xs c ≡ Some t
  pub before_end : t < never
  pub least : (d s : ℕ) → slice_get xs d ≡ Some s → (t < s) ⊎ ((t ≡ s) × (c ≤ d))

abbrev pub NoneFirst : List ℕ → Type 0
NoneFirst xs = (c s : ℕ) → slice_get xs c ≡ Some s → never ≤ s
