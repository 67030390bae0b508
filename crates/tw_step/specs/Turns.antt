-- What the advance of time says of a turn.
--     next_own model state s limit      the advance from this state, after a transition of stamp s
--     IsDueBy advance due      it gave the next own step, or none, which is due at the end
--     IsRefusedBy advance refused      it met this limit; or memory was refused, of which it says nothing
use Rattle.std.specs.Prelude.{ℕ, ◌≡◌, Option, Result, Ok, Err, ⊤}
use Rattle.tw_atomic.specs.Atomic.{Meaning}
use Rattle.tw_step.specs.declared.refused.TurnRefused.{TurnRefused}
use Rattle.tw_step.specs.declared.refused.TurnRefused.TheVariants.{OutOfMemory, OverLimit}
use Rattle.tw_theory.specs.Transitions.{due_of}
use Rattle.tw_vtime.specs.Advance.{advanced}
use Rattle.tw_vtime.specs.declared.limits.Limit.{Limit}

abbrev pub next_own : {S : Type 0} → Meaning S → S → ℕ → ℕ → Result (Option ℕ) Limit
next_own model state s limit = advanced s (model.ta state) limit

abbrev pub IsDueBy : Result (Option ℕ) Limit → ℕ → Type 0
IsDueBy advance due = (next : Option ℕ) × (advance ≡ Ok next) × (due ≡ due_of next)

abbrev pub IsRefusedBy : Result (Option ℕ) Limit → TurnRefused → Type 0
IsRefusedBy advance OutOfMemory = ⊤
IsRefusedBy advance (OverLimit limit) = advance ≡ Err limit
