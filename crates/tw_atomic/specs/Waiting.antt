-- Models that are never due at once: each time advance is a tick or more.
--     Waits longest ta      a time advance of 1 to so many ticks, or never
--     ComesBefore elapsed ta      a time before that advance is over
--     AlwaysWaits m longest      so waits the model at its start and after each transition, whatever the state before it
--     told_wait longest      the longest wait that is told: none, where it is 0 ticks
use Rattle.std.specs.Prelude.{ℕ, zero, suc, ◌<◌, ◌≤◌, Option, Some, None, ⊤}
use Rattle.tw_atomic.specs.Atomic.{Bag, Meaning}

abbrev pub Waits : ℕ → Option ℕ → Type 0
Waits longest None = ⊤
Waits longest (Some ta) = (0 < ta) × (ta ≤ longest)

abbrev pub ComesBefore : ℕ → Option ℕ → Type 0
ComesBefore elapsed None = ⊤
ComesBefore elapsed (Some ta) = elapsed < ta

pub record AlwaysWaits {S : Type 0} (m : Meaning S) (longest : ℕ) : Type 0 where
  pub start : Waits longest (m.ta m.start)
  pub int : (s : S) → Waits longest (m.ta s) → Waits longest (m.ta (m.int s))
  pub ext : (s : S) (elapsed : ℕ) (bag : Bag) → ComesBefore elapsed (m.ta s) → Waits longest (m.ta s) → Waits longest (m.ta (m.ext s elapsed bag))
  pub con : (s : S) (elapsed : ℕ) (bag : Bag) → Waits longest (m.ta s) → Waits longest (m.ta (m.con s elapsed bag))

-- of a wait of 0 ticks nothing is told: the model may be due at once
abbrev pub told_wait : ℕ → Option ℕ
told_wait zero = None
told_wait (suc n) = Some (suc n)
