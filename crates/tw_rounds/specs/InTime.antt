-- Runs that meet no limit, as their models tell beforehand.
--     IsInTime until longest      of a longest wait that is told: begun before the end tick, it is over by the greatest tick
--     EndsInTime until m      such a model always waits, and what it waits for from before the end tick is no later than the greatest tick
use Rattle.std.specs.Prelude.{ℕ, ◌+◌, ◌≤◌, Option, Some, None}
use Rattle.tw_atomic.specs.Atomic.{Meaning}
use Rattle.tw_atomic.specs.Waiting.{AlwaysWaits}
use Rattle.tw_vtime.specs.Stamps.{max_tick}

abbrev pub EndsInTime : {S : Type 0} → ℕ → Meaning S → Type 0
EndsInTime until m = (longest : ℕ) × (until + longest ≤ max_tick) × AlwaysWaits m longest

abbrev pub IsInTime : ℕ → Option ℕ → Type 0
IsInTime until None = ⊥
IsInTime until (Some longest) = until + longest ≤ max_tick
