-- How a run has ended, or that it goes on; and what the trace of its outcome is.
--     state net until w      complete, a fault, or going on
--     IsOutcome net until state trace      the sequential simulator ends so, with this trace
use Rattle.std.specs.Prelude.{ℕ, suc, ◌≡◌, List, [], ◌∷◌, Bool, true, not, ◌&&◌, ◌==◌, nat_lt, nat_le, if◌then◌else◌, Option, Some, None, Result, Ok, Err}
use Rattle.tw_msgs.specs.declared.message.Message.{Message}
use Rattle.tw_msgs.specs.declared.record.Record.{Record}
use Rattle.tw_vtime.specs.Stamps.{stamp, phase_of}
use Rattle.tw_vtime.specs.declared.limits.Limit.{Limit}
pub use Rattle.tw_actions.specs.declared.run_state.RunState.{RunState}
pub use Rattle.tw_actions.specs.declared.run_state.RunState.TheVariants.{Complete, Fault, Going}
use Rattle.tw_theory.specs.Contents.{Process, next}
use Rattle.tw_theory.specs.Exchange.{is_empty, all_empty}
use Rattle.tw_theory.specs.Executive.{World}
use Rattle.tw_theory.specs.LocalRun.{Made, NoStep, NothingDue, OverLimit, local_step}
use Rattle.tw_theory.specs.Network.{Network}
use Rattle.tw_theory.specs.Simulator.{sequential}
use Rattle.tw_theory.specs.Traces.{before}

-- whether no message of this stamp is in the list
abbrev pub none_at : ℕ → List Message → Bool
none_at s [] = true
none_at s (m ∷ ms) = not (m.stamp == s) && none_at s ms

-- nothing is outgoing, and nothing owed is of this stamp
abbrev pub all_quiet : {S : Type 0} → ℕ → List (Process S) → Bool
all_quiet g [] = true
all_quiet g (p ∷ ps) = is_empty p.outgoing && none_at g p.owed && all_quiet g ps

abbrev pub limit_of : {S : Type 0} → Result (Made S) NoStep → Option Limit
limit_of (Ok made) = None
limit_of (Err (OverLimit limit)) = Some limit
limit_of (Err NothingDue) = None

abbrev pub fault_at : ℕ → ℕ → Option Limit → RunState → RunState
fault_at c g None rest = rest
fault_at c g (Some limit) rest = Fault (record { component = c; stamp = g; limit = limit })

-- the first process, from number b on, whose next step is at g and meets a limit
abbrev pub first_fault : {S : Type 0} → Network S → ℕ → ℕ → List (Process S) → RunState
first_fault net g b [] = Going
first_fault net g b (p ∷ ps) = fault_at b g (if next p == g then limit_of (local_step net b p.now p.pending) else None) (first_fault net g (suc b) ps)

abbrev pub all_past : {S : Type 0} → ℕ → List (Process S) → Bool
all_past end [] = true
all_past end (p ∷ ps) = nat_le end p.line && all_past end ps

unfoldable pub state : {S : Type 0} → Network S → ℕ → World S → RunState
state net until w =
    if all_past (stamp until 0 0) w.processes then Complete
    else if all_quiet w.gvt w.processes && all_empty w.mail && nat_lt w.gvt (stamp until 0 0) && (phase_of w.gvt == 1) then first_fault net w.gvt 0 w.processes
    else Going

-- ---- the outcome

-- a run that is complete, or that ended in a fault, with this trace
abbrev pub IsOutcome : {S : Type 0} → Network S → ℕ → RunState → List Record → Type 0
IsOutcome net until Complete trace = ((sequential net until).fault ≡ None) × (trace ≡ (sequential net until).records)
IsOutcome net until (Fault met) trace = ((sequential net until).fault ≡ Some met) × (trace ≡ before met.stamp (sequential net until).records)
IsOutcome net until Going trace = ⊥
