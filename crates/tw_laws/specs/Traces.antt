-- The sequential trace, and the merging of columns.
use Rattle.std.specs.Prelude.{ℕ, ◌≤◌, ◌≡◌, List, ◌++◌, Some, slice_get}
use Rattle.tw_msgs.specs.declared.record.Record.{Record}
use Rattle.tw_vtime.specs.Stamps.{stamp, max_tick}
use Rattle.tw_theory.specs.Contents.{Process}
use Rattle.tw_theory.specs.Executive.{World, column_of}
use Rattle.tw_theory.specs.Network.{Network, IsNetwork}
use Rattle.tw_theory.specs.Simulator.{sequential, records_before}
use Rattle.tw_theory.specs.Soundness.{IsSound}
use Rattle.tw_theory.specs.Traces.{IsTrace, IsMerged, of_component, before, least_line}

-- two traces with the same records of each component are one
abbrev pub OneTrace : Type 0
OneTrace = (xs ys : List Record) → IsTrace xs → IsTrace ys → ((c : ℕ) → of_component c xs ≡ of_component c ys) → xs ≡ ys

-- The sequential simulator's records are a trace, and any trace that has of each component what the simulator recorded of it is that one
pub record TraceLaw (S : Type 0) : Type 0 where
  pub ordered : (net : Network S) (until : ℕ) → IsNetwork net → until ≤ max_tick → IsTrace (sequential net until).records
  pub only : (net : Network S) (until : ℕ) → IsNetwork net → until ≤ max_tick → (trace : List Record) → IsTrace trace → ((c : ℕ) → of_component c trace ≡ records_before net until c (stamp until 0 0)) → trace ≡ (sequential net until).records

-- In a sound executive, merging the columns up to a stamp that no line is before gives the sequential records before it: a beginning of the whole trace
abbrev pub MergingLaw : Type 0 → Type 0
MergingLaw S =
    (net : Network S) (until g : ℕ) (w : World S) → IsNetwork net → until ≤ max_tick → IsSound net until w
    → ((c : ℕ) (p : Process S) → slice_get w.processes c ≡ Some p → g ≤ p.line)
    → (trace : List Record) → IsTrace trace → ((c : ℕ) → of_component c trace ≡ before g (column_of w.columns c))
    → (trace ≡ before g (sequential net until).records) × ((rest : List Record) × (trace ++ rest ≡ (sequential net until).records))

-- So the columns merged up to the least line are the sequential records before it
abbrev pub LeastLineLaw : Type 0 → Type 0
LeastLineLaw S =
    (net : Network S) (until : ℕ) (w : World S) → IsNetwork net → until ≤ max_tick → IsSound net until w → (trace : List Record) → IsMerged (least_line w.processes) w trace
    → (trace ≡ before (least_line w.processes) (sequential net until).records) × ((rest : List Record) × (trace ++ rest ≡ (sequential net until).records))
