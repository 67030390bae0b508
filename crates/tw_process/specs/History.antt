-- How a process lies in its entries and its six lists, and what it keeps. No public clause cites this module.
--     shown entries consumed sent      the steps of the entries: each has its part of what was consumed and sent
--     seen network c now line way floor entries lists      what contracts see
--     kept_of entries      the steps of the entries, as they are kept
--     Stood IsValid model floor steps      the component stood before each step, and the steps rise from floor on
--     IsKeptBy, IsKept      what a process of a model keeps; that it keeps it for the model of its component
use Rattle.std.specs.Prelude.{◌≡◌, ℕ, ◌+◌, ◌≤◌, min, List, [], ◌∷◌, ◌++◌, length, map, take, drop, Some, slice_get}
use Rattle.std.specs.List.{AllByRecursion as Each}
use Rattle.tw_atomic.specs.Atomic.{Bag, Meaning}
use Rattle.tw_atomic.specs.declared.Turn.{Turn}
use Rattle.tw_msgs.specs.Messages.{Sorted}
use Rattle.tw_msgs.specs.declared.message.Message.{Message}
use Rattle.tw_network.specs.Contents.{Contents}
use Rattle.tw_theory.specs.Bundles.{first_stamp}
use Rattle.tw_theory.specs.Contents.{Cancel}
use Rattle.tw_step.specs.Steps.{before_of, AllLinked}
use Rattle.tw_step.specs.declared.step.Step.{Step as KeptStep}
use Rattle.tw_theory.specs.LocalRun.{Step}
use Rattle.tw_theory.specs.Transitions.{Moment}
use Rattle.tw_process.specs.declared.entry.Entry.{Entry}
use Rattle.tw_lists.specs.Lists.{Lists}
use Rattle.tw_process.specs.Process.{Held}
use Rattle.tw_theory.specs.Standing.{IsStanding, floor_after, CanTake}

-- it stood before each of these steps, which rise from floor on; each consumed messages of its own stamp
abbrev pub Stood : {S : Type 0} → (S → Type 0) → Meaning S → ℕ → List (Step S) → Type 0
Stood valid m floor [] = Unit {0}
Stood valid m floor (step ∷ steps) =
    IsStanding valid m step.before floor
    × (floor ≤ step.entry.stamp)
    × Each (λ x. x.stamp ≡ step.entry.stamp) step.consumed
    × Stood valid m (step.entry.stamp + 1) steps

module _ {S R : Type 0} where
  abbrev pub kept_of : List (Entry S R) → List (KeptStep S R)
  kept_of es = map (λ e. e.step) es

  -- an entry, with what it consumed and sent
  abbrev pub step_of : Entry S R → List Message → List Message → Step S
  step_of e consumed sent = record { entry = e.step.done; before = before_of e.step; consumed = consumed; sent = sent }

  -- the entries in turn have their parts of what was consumed and sent
  abbrev pub shown : List (Entry S R) → List Message → List Message → List (Step S)
  shown [] consumed sent = []
  shown (e ∷ es) consumed sent = step_of e (take e.consumed consumed) (take e.sent sent) ∷ shown es (drop e.consumed consumed) (drop e.sent sent)

  -- a process, with this history and these lists
  abbrev pub seen : {M : Type 0} → Contents M → ℕ → Moment S → ℕ → Cancel → ℕ → List (Entry S R) → Lists → Held M S
  seen network c now line way floor history lists = record {
    network = network;
    component = c;
    process = record {
      now = now;
      pending = lists.pending;
      history = shown history lists.consumed lists.sent;
      waiting = lists.waiting;
      outgoing = lists.outgoing;
      owed = lists.owed;
      line = line;
      cancel = way;
    };
    floor = floor;
    spare = min lists.room lists.spare;
  }

  abbrev pub total_consumed : List (Entry S R) → ℕ
  total_consumed [] = 0
  total_consumed (e ∷ es) = e.consumed + total_consumed es

  abbrev pub total_sent : List (Entry S R) → ℕ
  total_sent [] = 0
  total_sent (e ∷ es) = e.sent + total_sent es

  -- what a process of this model keeps
  pub record IsKeptBy (valid : S → Type 0) (m : Meaning S) (undone : Turn → S → ℕ → Bag → R → S) (c : ℕ) (now : Moment S) (floor : ℕ) (history : List (Entry S R)) (lists : Lists) : Type 0 where
    pub linked : AllLinked undone (kept_of history) now.state
    pub consumed_is : total_consumed history ≡ length lists.consumed
    pub sent_is : total_sent history ≡ length lists.sent
    pub sorted : Sorted (lists.consumed ++ lists.pending)
    pub fit : Each (CanTake c) (lists.consumed ++ lists.pending)
    pub stood : Stood valid m floor (shown history lists.consumed lists.sent)
    pub standing : IsStanding valid m now (floor_after floor (shown history lists.consumed lists.sent))
    pub from : floor_after floor (shown history lists.consumed lists.sent) ≤ first_stamp lists.pending

  -- what a process keeps
  pub record IsKept {M : Type 0} (valid : M → S → Type 0) (meaning : M → Meaning S) (undone : M → Turn → S → ℕ → Bag → R → S) (network : Contents M) (c : ℕ) (now : Moment S) (floor : ℕ) (history : List (Entry S R)) (lists : Lists) : Type 0 where
    pub model : M
    pub there : slice_get network.models c ≡ Some model
    pub by : IsKeptBy (valid model) (meaning model) (undone model) c now floor history lists
