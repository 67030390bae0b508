-- What the outcome of a run says: it is the sequential simulator's, with its whole trace, or its trace before the fault.
use Rattle.std.specs.Prelude.{ℕ, ◌≤◌, ◌≡◌, ◌≢◌, List, length, Some, slice_get}
use Rattle.tw_msgs.specs.Counting.{total}
use Rattle.tw_msgs.specs.declared.record.Record.{Record}
use Rattle.tw_vtime.specs.Stamps.{stamp, max_tick}
use Rattle.tw_theory.specs.Contents.{Process}
use Rattle.tw_theory.specs.Executive.{World, column_of}
use Rattle.tw_theory.specs.Network.{Network, IsNetwork}
use Rattle.tw_theory.specs.Outcomes.{Complete, Fault as InFault, Going, state, IsOutcome}
use Rattle.tw_theory.specs.Simulator.{Fault, sequential, up_to}
use Rattle.tw_theory.specs.Soundness.{IsSound}
use Rattle.tw_theory.specs.Traces.{IsTrace, IsMerged, of_component, before}

pub record OutcomeLaw (S : Type 0) : Type 0 where
  -- with a fault the simulator has recorded nothing at it or after
  pub before_fault : (net : Network S) (until : ℕ) → IsNetwork net → until ≤ max_tick
      → (met : Fault) → (sequential net until).fault ≡ Some met → before met.stamp (sequential net until).records ≡ (sequential net until).records
  pub complete : (net : Network S) (until : ℕ) (w : World S) → IsNetwork net → until ≤ max_tick → IsSound net until w
      → state net until w ≡ Complete → (trace : List Record) → IsMerged (stamp until 0 0) w trace → IsOutcome net until Complete trace
  pub fault : (net : Network S) (until : ℕ) (w : World S) → IsNetwork net → until ≤ max_tick → IsSound net until w
      → (met : Fault) → state net until w ≡ InFault met → ((d : ℕ) (p : Process S) → slice_get w.processes d ≡ Some p → met.stamp ≤ p.line)
      → (trace : List Record) → IsMerged met.stamp w trace → IsOutcome net until (InFault met) trace
  -- the trace of whole columns is enough where the run is complete
  pub whole : (net : Network S) (until : ℕ) (w : World S) → IsNetwork net → until ≤ max_tick → IsSound net until w
      → state net until w ≡ Complete → (trace : List Record) → IsTrace trace → ((c : ℕ) → of_component c trace ≡ column_of w.columns c)
      → IsOutcome net until Complete trace × (length trace ≡ total length w.columns)
  -- and, whether complete or in a fault, where every line is gvt, as after a sweep
  pub at_gvt : (net : Network S) (until : ℕ) (w : World S) → IsNetwork net → until ≤ max_tick → IsSound net until w
      → ((d : ℕ) (p : Process S) → slice_get w.processes d ≡ Some p → p.line ≡ w.gvt) → (trace : List Record) → IsTrace trace → ((c : ℕ) → of_component c trace ≡ column_of w.columns c)
      → state net until w ≢ Going → IsOutcome net until (state net until w) trace × (length trace ≡ total length w.columns)
  -- a trace merged up to gvt, or up to the end of the run, has each record of each column once
  pub count : (net : Network S) (until : ℕ) (w : World S) → IsSound net until w
      → (g : ℕ) → up_to until w.gvt ≤ g → (trace : List Record) → IsMerged g w trace → length trace ≡ total length w.columns
