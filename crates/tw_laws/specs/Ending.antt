-- How a sound executive shows that the run has ended: all is committed, or the simulator's fault is reached.
use Rattle.std.specs.Prelude.{ℕ, ◌<◌, ◌≤◌, ◌≡◌, ◌≢◌, ◌↔◌, [], Some, None, Err, slice_get}
use Rattle.std.specs.List.{AllByRecursion as Each}
use Rattle.tw_vtime.specs.Stamps.{stamp, phase_of, max_tick}
use Rattle.tw_vtime.specs.declared.limits.Limit.{Limit}
use Rattle.tw_theory.specs.Contents.{Process, next}
use Rattle.tw_theory.specs.Executive.{World, column_of}
use Rattle.tw_theory.specs.LocalRun.{OverLimit, local_step}
use Rattle.tw_theory.specs.Network.{Network, IsNetwork}
use Rattle.tw_theory.specs.Outcomes.{Complete, Fault as InFault, state}
use Rattle.tw_theory.specs.Simulator.{Fault, sequential, records_before}
use Rattle.tw_theory.specs.Soundness.{IsSound}

-- Nothing is in transit, no message owed is of stamp gvt, and c is the least component whose next step is at gvt and meets a limit
pub record ShowsFault {S : Type 0} (net : Network S) (until : ℕ) (w : World S) (c : ℕ) (limit : Limit) : Type 0 where
  pub before : w.gvt < stamp until 0 0
  pub odd : phase_of w.gvt ≡ 1
  pub outgoing : (d : ℕ) (q : Process S) → slice_get w.processes d ≡ Some q → q.outgoing ≡ []
  pub mail : Each (λ box. box ≡ []) w.mail
  pub owed : (d : ℕ) (q : Process S) → slice_get w.processes d ≡ Some q → Each (λ m. m.stamp ≢ w.gvt) q.owed
  pub process : Process S
  pub at : slice_get w.processes c ≡ Some process
  pub next_is : next process ≡ w.gvt
  pub meets : local_step net c process.now process.pending ≡ Err (OverLimit limit)
  pub least : (d : ℕ) (q : Process S) (other : Limit) → slice_get w.processes d ≡ Some q → d < c → next q ≡ w.gvt → local_step net d q.now q.pending ≡ Err (OverLimit other) → ⊥

-- every line is at or after this stamp
abbrev pub AllPast : {S : Type 0} → ℕ → World S → Type 0
AllPast {S} end w = (c : ℕ) (p : Process S) → slice_get w.processes c ≡ Some p → end ≤ p.line

-- the columns are the simulator's records, each of its component
abbrev pub HasAll : {S : Type 0} → Network S → ℕ → World S → Type 0
HasAll {S} net until w = (c : ℕ) (p : Process S) → slice_get w.processes c ≡ Some p → column_of w.columns c ≡ records_before net until c (stamp until 0 0)

-- that is the simulator's fault; and where every line is at the end, the simulator has no fault and the columns are its records
pub record EndingLaw (S : Type 0) : Type 0 where
  pub fault : (net : Network S) (until : ℕ) (w : World S) → IsNetwork net → until ≤ max_tick → IsSound net until w
      → (c : ℕ) (limit : Limit) → ShowsFault net until w c limit → (sequential net until).fault ≡ Some (record { component = c; stamp = w.gvt; limit = limit })
  pub complete : (net : Network S) (until : ℕ) (w : World S) → IsNetwork net → until ≤ max_tick → IsSound net until w → AllPast (stamp until 0 0) w
      → ((sequential net until).fault ≡ None) × HasAll net until w

-- ---- the state of a run

-- what it says is so
pub record StateLaw (S : Type 0) : Type 0 where
  -- of every world, sound or not: it is complete exactly where every line is at the end or after it
  pub past : (net : Network S) (until : ℕ) (w : World S) → (state net until w ≡ Complete) ↔ AllPast (stamp until 0 0) w
  -- and otherwise shows a fault exactly where it stands at gvt, with nothing in transit
  pub shows : (net : Network S) (until : ℕ) (w : World S) (met : Fault)
      → (state net until w ≡ InFault met) ↔ ((AllPast (stamp until 0 0) w → ⊥) × (met.stamp ≡ w.gvt) × ShowsFault net until w met.component met.limit)
  -- of a sound one: that fault is the sequential simulator's; and a complete one has all its records, and the simulator no fault
  pub fault : (net : Network S) (until : ℕ) (w : World S) → IsNetwork net → until ≤ max_tick → IsSound net until w
      → (met : Fault) → state net until w ≡ InFault met → (met.stamp ≡ w.gvt) × ((sequential net until).fault ≡ Some met)
  pub complete : (net : Network S) (until : ℕ) (w : World S) → IsNetwork net → until ≤ max_tick → IsSound net until w → state net until w ≡ Complete
      → ((sequential net until).fault ≡ None) × HasAll net until w
