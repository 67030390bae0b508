-- Who has something to do in a round.
--     IsReached bags c      something comes to component c
--     WakesAll bags awake      each component to which something comes is awake
--     HasTurn t moments bags c      component c is imminent at t, or something comes to it
--     IsInTurn t moments bags awake      those are awake, in rising order
use Rattle.std.specs.Prelude.{◌≡◌, ◌≢◌, ℕ, ◌<◌, ◌⊎◌, List, [], length, slice_get, Some}
use Rattle.std.specs.List.{All, Contains}
use Rattle.std.specs.List.Sorted.{IsStrictlyIncreasing}
use Rattle.tw_msgs.specs.Bags.{Bag}
use Rattle.tw_rounds.specs.Agenda.{IsDueAt}
use Rattle.tw_theory.specs.Transitions.{Moment}

abbrev pub IsReached : List Bag → ℕ → Type 0
IsReached bags c = (bag : Bag) × (slice_get bags c ≡ Some bag) × (bag ≢ [])

pub record WakesAll (bags : List Bag) (awake : List ℕ) : Type 0 where
  pub each : All (λ c. c < length bags) awake
  pub all : (c : ℕ) → IsReached bags c → Contains awake c

abbrev pub HasTurn : {S : Type 0} → ℕ → List (Moment S) → List Bag → ℕ → Type 0
HasTurn t moments bags c = IsDueAt moments c t ⊎ IsReached bags c

pub record IsInTurn {S : Type 0} (t : ℕ) (moments : List (Moment S)) (bags : List Bag) (awake : List ℕ) : Type 0 where
  pub rising : IsStrictlyIncreasing awake
  pub each : All (λ c. c < length bags) awake
  pub all : (c : ℕ) → HasTurn t moments bags c → Contains awake c
