-- The theorem of the whole, in one statement. Whatever was done to an executive from its start, refused or not:
-- taking back any steps restores every component's state, pending events and lists, with one anti-message for each message sent;
-- and what each component has committed is what the sequential abstract simulator does up to its commit line.
use Rattle.std.specs.Prelude.{ℕ, ◌≤◌, ◌≡◌, List, [], ◌∷◌, Some, slice_get, Ok}
use Rattle.std.specs.List.{AllByRecursion as Each}
use Rattle.tw_vtime.specs.Stamps.{max_tick}
use Rattle.tw_theory.specs.Contents.{Process, Cancel}
use Rattle.tw_theory.specs.Executive.{World, Action, Back, Undone, act}
use Rattle.tw_theory.specs.Marks.{rewound_steps, rewind}
use Rattle.tw_theory.specs.Network.{Network, IsNetwork}
use Rattle.tw_theory.specs.Soundness.{Cancels, new_world}
use Rattle.tw_laws.specs.Committed.{HasCommitted}
use Rattle.tw_laws.specs.Inverse.{IsRestored, IsOneRestored, stepped, stepped_and_rewound, stepped_and_back}
use Rattle.tw_laws.specs.Rewinding.{IsRewound, RewindAnswers, IsOneCut}

-- What is done to an executive: any action, or a rewind to any marks
pub data Command : Type 0 where
  Act : (action : Action) → Command
  Rewind : (ss : List ℕ) → Command

abbrev pub after_command : {S : Type 0} → Network S → ℕ → World S → Command → World S
after_command net until w (Act action) = (act net until w action).1
after_command net until w (Rewind ss) = (rewind w ss).1

abbrev pub after_commands : {S : Type 0} → Network S → ℕ → World S → List Command → World S
after_commands net until w [] = w
after_commands net until w (command ∷ commands) = after_commands net until (after_command net until w command) commands

-- ---- the first half

pub record TakesBack {S : Type 0} (net : Network S) (until : ℕ) (w : World S) : Type 0 where
  -- steps on any components, and then a rewind to the marks taken before them, or Back to one component's mark
  pub by_rewind : (cs : List ℕ) → IsRestored w (stepped net until w cs) (stepped_and_rewound net until w cs)
  pub by_back : (cs : List ℕ) (c : ℕ) (p : Process S) → slice_get w.processes c ≡ Some p → IsOneRestored w (stepped net until w cs) (stepped_and_back net until w cs c p) c p
  -- a rewind is refused exactly where a step since its mark is committed, or stands before gvt
  pub answers : (ss : List ℕ) → RewindAnswers w ss
  -- a rewind to any marks, and Back to any stamp, that is not refused, whatever came between
  pub to_marks : (ss : List ℕ) (n : ℕ) → (rewind w ss).0 ≡ Ok (Undone n) → (n ≡ rewound_steps ss w.processes) × IsRewound w ss (rewind w ss).1
  pub to_stamp : (c s n : ℕ) → (act net until w (Back c s)).0 ≡ Ok (Undone n) → IsOneCut w c s n (act net until w (Back c s)).1

-- ---- both

pub record IsTimeWarp {S : Type 0} (net : Network S) (cancel : Cancel) (until : ℕ) (w : World S) : Type 0 where
  pub cancels : Each (Cancels cancel) w.processes
  pub takes_back : TakesBack net until w
  pub committed : HasCommitted net until w

abbrev pub TimeWarpLaw : Type 0 → Type 0
TimeWarpLaw S =
    (net : Network S) (cancel : Cancel) (until : ℕ) (commands : List Command) → IsNetwork net → until ≤ max_tick
    → IsTimeWarp net cancel until (after_commands net until (new_world net cancel) commands)
