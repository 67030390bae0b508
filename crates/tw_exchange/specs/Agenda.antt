-- An agenda: of each component that stands in it, a stamp.
--     IsLeast stamps s c      of those that stand there, c is the least by stamp and then number; s is its stamp
--     AllLate stamps      none stands there before the end
--     mark marked      where one that is marked stands: at the start
--     IsIndexed stamps times      the times are their stamps, and the end for those that have left
use Rattle.std.specs.Prelude.{◌≡◌, ◌<◌, ◌≤◌, ◌⊎◌, ℕ, Bool, true, false, List, map, Option, Some, None, slice_get}
use Rattle.tw_vtime.specs.Stamps.{never}

pub record IsLeast (stamps : List (Option ℕ)) (s c : ℕ) : Type 0 where
  pub at : slice_get stamps c ≡ Some (Some s)
  pub least : (d t : ℕ) → slice_get stamps d ≡ Some (Some t) → (s < t) ⊎ ((s ≡ t) × (c ≤ d))

abbrev pub AllLate : List (Option ℕ) → Type 0
AllLate stamps = (c s : ℕ) → slice_get stamps c ≡ Some (Some s) → never ≤ s

abbrev pub mark : Bool → Option ℕ
mark true = Some 0
mark false = None

-- ---- how it is held

abbrev pub time_of : Option ℕ → ℕ
time_of None = never
time_of (Some s) = s

abbrev pub IsIndexed : List (Option ℕ) → List ℕ → Type 0
IsIndexed stamps times = times ≡ map time_of stamps
