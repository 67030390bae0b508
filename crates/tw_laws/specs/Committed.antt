-- What is committed: whatever actions are taken, it is what the sequential simulator does.
use Rattle.std.specs.Prelude.{ℕ, ◌≤◌, ◌<◌, ◌≡◌, List, [], ◌∷◌, ◌++◌, length, None, Some, slice_get, Ok}
use Rattle.std.specs.List.{AllByRecursion as Each}
use Rattle.tw_msgs.specs.Counting.{total}
use Rattle.tw_msgs.specs.declared.record.Record.{Record}
use Rattle.tw_vtime.specs.Stamps.{stamp, never, max_tick}
use Rattle.tw_theory.specs.Contents.{Process, Cancel, next}
use Rattle.tw_theory.specs.Executive.{World, Action, Raise, Raised, act, replay, column_of, mail_of, least_of}
use Rattle.tw_theory.specs.Marks.{rewind}
use Rattle.tw_theory.specs.Network.{Network, count_of, IsNetwork}
use Rattle.tw_theory.specs.Simulator.{Fault, sequential, round_time, records_before}
use Rattle.tw_theory.specs.Soundness.{IsSound, new_world}

-- There is a process and a column for each component, and what each has committed is what the sequential simulator does up to its commit line
pub record HasCommitted {S : Type 0} (net : Network S) (until : ℕ) (w : World S) : Type 0 where
  pub processes : length w.processes ≡ count_of net
  pub columns : length w.columns ≡ count_of net
  pub each : (c : ℕ) (p : Process S) → slice_get w.processes c ≡ Some p → column_of w.columns c ≡ records_before net until c p.line

-- For every list of actions from the start, refused ones included
abbrev pub CommittedLaw : Type 0 → Type 0
CommittedLaw S =
    (net : Network S) (cancel : Cancel) (until : ℕ) (actions : List Action) → IsNetwork net → until ≤ max_tick
    → HasCommitted net until (replay net until (new_world net cancel) actions)

-- No line passes the fault of the sequential simulator, which stands before the end of the run
abbrev pub LinesLaw : Type 0 → Type 0
LinesLaw S =
    (net : Network S) (cancel : Cancel) (until : ℕ) (actions : List Action) → IsNetwork net → until ≤ max_tick
    → (c : ℕ) (p : Process S) → slice_get (replay net until (new_world net cancel) actions).processes c ≡ Some p
    → (met : Fault) → (sequential net until).fault ≡ Some met → (met.stamp < stamp until 0 0) × (p.line ≤ met.stamp)

-- where the sequential simulator ends in a fault, no component has committed past its stamp
abbrev pub IsBeforeFault : {S : Type 0} → Network S → ℕ → World S → Type 0
IsBeforeFault {S} net until w =
    (met : Fault) → (sequential net until).fault ≡ Some met → (c : ℕ) (p : Process S) → slice_get w.processes c ≡ Some p → p.line ≤ met.stamp

abbrev pub SoundLines : Type 0 → Type 0
SoundLines S = (net : Network S) (until : ℕ) (w : World S) → IsNetwork net → until ≤ max_tick → IsSound net until w → IsBeforeFault net until w

-- g is at or before all that can still change: every next stamp, and every stamp in transit, positive or anti, or owed
pub record IsAtOrBeforeAll {S : Type 0} (w : World S) (g : ℕ) : Type 0 where
  pub next : (c : ℕ) (p : Process S) → slice_get w.processes c ≡ Some p → g ≤ next p
  pub outgoing : (c : ℕ) (p : Process S) → slice_get w.processes c ≡ Some p → Each (λ i. g ≤ i.message.stamp) p.outgoing
  pub owed : (c : ℕ) (p : Process S) → slice_get w.processes c ≡ Some p → Each (λ m. g ≤ m.stamp) p.owed
  pub mail : (q : ℕ) → Each (λ i. g ≤ i.message.stamp) (mail_of w.mail q)

-- one list is a beginning of the other
abbrev pub IsBeginning : List Record → List Record → Type 0
IsBeginning xs ys = (rest : List Record) × (ys ≡ xs ++ rest)

-- each column is a beginning of its successor
abbrev pub Grow : List (List Record) → List (List Record) → Type 0
Grow [] [] = Unit {0}
Grow (x ∷ xs) (y ∷ ys) = IsBeginning x y × Grow xs ys
Grow [] (y ∷ ys) = ⊥
Grow (x ∷ xs) [] = ⊥

pub record GvtLaw (S : Type 0) : Type 0 where
  -- gvt never falls, by an action, a list of actions or a rewind
  pub rises : (net : Network S) (until : ℕ) (w : World S) → IsSound net until w → (action : Action) → w.gvt ≤ (act net until w action).1.gvt
  pub rises_by : (net : Network S) (until : ℕ) (w : World S) → IsNetwork net → until ≤ max_tick → IsSound net until w → (actions : List Action) → w.gvt ≤ (replay net until w actions).gvt
  pub rewind_gvt : (w : World S) (ss : List ℕ) → (rewind w ss).1.gvt ≡ w.gvt
  -- what is committed stays, whatever is done
  pub grows : (net : Network S) (until : ℕ) (w : World S) (action : Action) → Grow w.columns (act net until w action).1.columns
  pub grows_by : (net : Network S) (until : ℕ) (w : World S) (actions : List Action) → Grow w.columns (replay net until w actions).columns
  pub rewind_columns : (w : World S) (ss : List ℕ) → (rewind w ss).1.columns ≡ w.columns
  -- so the number of committed records never falls either
  pub count : (old new : List (List Record)) → Grow old new → total length old ≤ total length new
  -- Raise sets it to the exact least, and changes nothing else
  pub raise : (net : Network S) (until : ℕ) (w : World S) → act net until w Raise ≡ (Ok (Raised (least_of w)), record w { gvt = least_of w })
  pub at_or_before : (w : World S) → IsAtOrBeforeAll w (least_of w)
  pub greatest : (w : World S) (g : ℕ) → g ≤ never → IsAtOrBeforeAll w g → g ≤ least_of w

-- A sequential run without a fault has made all its rounds: none is left of a time before the end
abbrev pub RoundsLaw : Type 0 → Type 0
RoundsLaw S =
    (net : Network S) (until : ℕ) → IsNetwork net → until ≤ max_tick → (sequential net until).fault ≡ None → stamp until 0 0 ≤ round_time (sequential net until).at
