-- How a run ends, and what workers know of each other's work.
--     IsEnd meaning n until outcome      the sequential simulator ends so, with this trace
--     trace_of outcome      its records
--     IsEndOf meaning e outcome      so ends the run of an executive that has committed just these
--     IsOver meaning e end      the run of an executive stands so, and all before its end is committed
--     IsNotOver meaning e      it stands as no end does, or something before its end is not committed
--     IsOnly given n until      what is given is of this network and this end tick
--     IsDue valid meaning n until order      an order of a component of this network, of steps before this end tick
--     AreAlikeIn meaning undone n prepareds      its model takes back as the component's own does
--     IsMadeFor meaning undone n until prepareds      what was worked out from such an order
use Rattle.std.specs.Prelude.{◌≡◌, ◌<◌, ◌≤◌, ℕ, List, length, Some, slice_get, true}
use Rattle.atomic_table.specs.Seated.{TableId}
use Rattle.tw_atomic.specs.Atomic.{AreAlike, Bag, Meaning}
use Rattle.tw_atomic.specs.declared.Turn.{Turn}
use Rattle.tw_exec.specs.Running.{Running}
use Rattle.tw_msgs.specs.Counting.{total}
use Rattle.tw_msgs.specs.declared.record.Record.{Record}
use Rattle.tw_network.specs.Contents.{Contents, network_of}
use Rattle.tw_theory.specs.Chains.{Chain, Start}
use Rattle.tw_theory.specs.Outcomes as theory
use Rattle.tw_theory.specs.Outcomes.{IsOutcome, all_past}
use Rattle.tw_vtime.specs.Stamps.{max_microstep, stamp}
use Rattle.tw_exchange.specs.Exchanged.{IsReadyIn}
use Rattle.tw_exchange.specs.States.{state_of}
use Rattle.tw_exchange.specs.declared.outcome.Outcome.{Outcome}
use Rattle.tw_exchange.specs.declared.outcome.Outcome.TheVariants.{Complete, Fault}

-- a complete run has all the simulator's records, and the simulator no fault; one with a fault has the simulator's fault and its records before it
abbrev pub IsEnd : {M S : Type 0} → (M → Meaning S) → Contents M → ℕ → Outcome → Type 0
IsEnd meaning n until (Complete trace) = IsOutcome (network_of meaning n) until theory.Complete trace.items
IsEnd meaning n until (Fault trace met) = IsOutcome (network_of meaning n) until (theory.Fault met) trace.items

abbrev pub trace_of : Outcome → List Record
trace_of (Complete trace) = trace.items
trace_of (Fault trace met) = trace.items

pub record IsEndOf {M S : Type 0} (meaning : M → Meaning S) (e : Running M S) (outcome : Outcome) : Type 0 where
  pub end : IsEnd meaning e.network e.until outcome
  -- as many records are committed as its trace has
  pub committed : total length e.world.columns ≡ length (trace_of outcome)

abbrev pub IsOver : {M S : Type 0} → (M → Meaning S) → Running M S → theory.RunState → Type 0
IsOver meaning e theory.Complete = state_of meaning e ≡ theory.Complete
IsOver meaning e (theory.Fault met) = (state_of meaning e ≡ theory.Fault met) × (all_past met.stamp e.world.processes ≡ true)
IsOver meaning e theory.Going = ⊥

abbrev pub IsNotOver : {M S : Type 0} → (M → Meaning S) → Running M S → Type 0
IsNotOver meaning e = (end : theory.RunState) → IsOver meaning e end → ⊥

-- ---- what workers know of each other's work

abbrev pub IsOnly : {M : Type 0} → (Contents M → ℕ → TableId → Type 0) → Contents M → ℕ → Type 0
IsOnly {M} given n until = (m : Contents M) (u : ℕ) (board : TableId) → given m u board → (m ≡ n) × (u ≡ until)

pub record IsDue {M S : Type 0} (valid : M → S → Type 0) (meaning : M → Meaning S) (n : Contents M) (until : ℕ) (order : Start S) : Type 0 where
  pub near : order.component < length n.models
  pub ready : IsReadyIn valid meaning n order
  pub limit : order.micro_limit ≡ n.micro_limit
  pub low : order.micro_limit ≤ max_microstep
  pub before : order.before ≤ stamp until 0 0

abbrev pub AreAlikeIn : {M S R : Type 0} → (M → Meaning S) → (M → Turn → S → ℕ → Bag → R → S) → Contents M → Chain M S → Type 0
AreAlikeIn {M} meaning undone n prepareds = (m : M) → slice_get n.models prepareds.run.start.component ≡ Some m → AreAlike meaning undone m prepareds.model

pub record IsMadeFor {M S R : Type 0} (meaning : M → Meaning S) (undone : M → Turn → S → ℕ → Bag → R → S) (n : Contents M) (until : ℕ) (prepareds : Chain M S) : Type 0 where
  pub limit : prepareds.run.start.micro_limit ≡ n.micro_limit
  pub before : prepareds.run.start.before ≤ stamp until 0 0
  pub alike : AreAlikeIn meaning undone n prepareds
