-- What a rewind, or Back, does where any actions came since the marks were taken.
use Rattle.std.specs.Prelude.{ℕ, ◌+◌, ◌<◌, ◌≤◌, ◌≡◌, ◌≢◌, ◌↔◌, List, [], ◌∷◌, ◌++◌, length, drop, pos, ◌-ℤ◌, Some, slice_get, Ok, Err}
use Rattle.std.specs.List.{AllByRecursion as Each}
use Rattle.tw_msgs.specs.Counting.{total, one_at, signed_count}
use Rattle.tw_msgs.specs.declared.message.Message.{Message}
use Rattle.tw_msgs.specs.declared.record.Record.{Record}
use Rattle.tw_theory.specs.Balance.{in_transit}
use Rattle.tw_theory.specs.Contents.{Process, Cancel, Aggressive, Lazy, inputs, sent_by, steps_before, steps_from, cut, records_of}
use Rattle.tw_theory.specs.Executive.{World, Back, Undone, NoSuch, Committed, act, column_of}
use Rattle.tw_theory.specs.LocalRun.{Step}
use Rattle.tw_theory.specs.Marks.{rewound_steps, rewind}
use Rattle.tw_theory.specs.Network.{IsNetwork, Network}
use Rattle.tw_theory.specs.Soundness.{AllBefore, IsSound}

-- what the steps sent that a rewind takes back
abbrev pub taken_back : {S : Type 0} → List ℕ → List (Process S) → List Message
taken_back [] ps = []
taken_back (s ∷ ss) [] = []
taken_back (s ∷ ss) (p ∷ ps) = sent_by (drop (steps_before s p.history) p.history) ++ taken_back ss ps

-- all messages owed
abbrev pub all_owed : {S : Type 0} → List (Process S) → List Message
all_owed [] = []
all_owed (p ∷ ps) = p.owed ++ all_owed ps

-- all processes make anti-messages so
abbrev pub AllCancel : {S : Type 0} → Cancel → List (Process S) → Type 0
AllCancel cancel ps = Each (λ p. p.cancel ≡ cancel) ps

-- q is p cut at s: it keeps the steps before s, on all messages that p held
pub record IsCutAt {S : Type 0} (s : ℕ) (p q : Process S) : Type 0 where
  pub is : q ≡ cut s p
  pub keeps : AllBefore s q.history
  pub inputs_stay : inputs q ≡ inputs p
  pub line : q.line ≡ p.line

-- a cut of p at s parts its history: the steps that it keeps stand before s, and those that it takes back at or after s
pub record IsParted {S : Type 0} (s : ℕ) (p : Process S) : Type 0 where
  pub taken : List (Step S)
  pub history : p.history ≡ (cut s p).history ++ taken
  pub keeps : AllBefore s (cut s p).history
  pub takes : Each (λ step. s ≤ step.entry.stamp) taken

-- so it does wherever an executive is sound
abbrev pub CutsPart : Type 0 → Type 0
CutsPart S = (net : Network S) (until : ℕ) (w : World S) (c s : ℕ) (p : Process S) → IsNetwork net → IsSound net until w → slice_get w.processes c ≡ Some p → IsParted s p

-- w' is w rewound to the marks ss, which were not refused
pub record IsRewound {S : Type 0} (w : World S) (ss : List ℕ) (w' : World S) : Type 0 where
  pub process : (c s : ℕ) (p : Process S) → slice_get ss c ≡ Some s → slice_get w.processes c ≡ Some p → (q : Process S) × (slice_get w'.processes c ≡ Some q) × IsCutAt s p q
  pub mail : w'.mail ≡ w.mail
  pub columns : w'.columns ≡ w.columns
  pub gvt : w'.gvt ≡ w.gvt
  -- the signed count in transit of each message falls by just the times that the cut steps sent it
  pub aggressive : AllCancel Aggressive w.processes → (m : Message) → signed_count m (in_transit w') ≡ signed_count m (in_transit w) -ℤ pos (total (one_at m) (taken_back ss w.processes))
  -- or what is in transit stays, and what is owed rises by as much
  pub lazy : AllCancel Lazy w.processes → (in_transit w' ≡ in_transit w)
      × ((m : Message) → total (one_at m) (all_owed w'.processes) ≡ total (one_at m) (all_owed w.processes) + total (one_at m) (taken_back ss w.processes))

-- the answer is the number of steps cut
abbrev pub RewindingLaw : Type 0 → Type 0
RewindingLaw S =
    (w : World S) (ss : List ℕ) (n : ℕ) → (rewind w ss).0 ≡ Ok (Undone n) → (n ≡ rewound_steps ss w.processes) × IsRewound w ss (rewind w ss).1

-- w' is w with process c cut at s, which was not refused; n steps were taken back
pub record IsOneCut {S : Type 0} (w : World S) (c s n : ℕ) (w' : World S) : Type 0 where
  pub from : w.gvt ≤ s
  pub old : Process S
  pub new : Process S
  pub old_at : slice_get w.processes c ≡ Some old
  pub new_at : slice_get w'.processes c ≡ Some new
  pub process : IsCutAt s old new
  pub number : n ≡ steps_from s old
  pub others : (d : ℕ) → d ≢ c → slice_get w'.processes d ≡ slice_get w.processes d
  pub mail : w'.mail ≡ w.mail
  pub columns : w'.columns ≡ w.columns
  pub gvt : w'.gvt ≡ w.gvt
  -- the signed count in transit of each message falls by just the times that the cut steps sent it
  pub aggressive : old.cancel ≡ Aggressive → (m : Message) → signed_count m (in_transit w') ≡ signed_count m (in_transit w) -ℤ pos (total (one_at m) (sent_by (drop (steps_before s old.history) old.history)))
  -- or what is in transit stays, and what is owed rises by as much
  pub lazy : old.cancel ≡ Lazy → (in_transit w' ≡ in_transit w)
      × ((m : Message) → total (one_at m) (all_owed w'.processes) ≡ total (one_at m) (all_owed w.processes) + total (one_at m) (sent_by (drop (steps_before s old.history) old.history)))

abbrev pub BackCuts : Type 0 → Type 0
BackCuts S =
    (net : Network S) (until : ℕ) (w : World S) (c s n : ℕ) → (act net until w (Back c s)).0 ≡ Ok (Undone n) → IsOneCut w c s n (act net until w (Back c s)).1

-- ---- since a commitment

-- a step of a component, committed or in its history, stands at or after its mark and before gvt
pub record IsCommittedSince {S : Type 0} (w : World S) (ss : List ℕ) : Type 0 where
  pub component : ℕ
  pub mark : ℕ
  pub process : Process S
  pub mark_at : slice_get ss component ≡ Some mark
  pub process_at : slice_get w.processes component ≡ Some process
  pub place : ℕ
  pub entry : Record
  pub entry_at : slice_get (column_of w.columns component ++ records_of process.history) place ≡ Some entry
  pub since : mark ≤ entry.stamp
  pub before : entry.stamp < w.gvt

-- A rewind is refused where its marks are not one for each component, or where such a step is there; nowhere else
pub record RewindAnswers {S : Type 0} (w : World S) (ss : List ℕ) : Type 0 where
  pub wrong : ((rewind w ss).0 ≡ Err NoSuch) ↔ (length ss ≢ length w.processes)
  pub committed : length ss ≡ length w.processes → ((rewind w ss).0 ≡ Err Committed) ↔ IsCommittedSince w ss
  pub taken : length ss ≡ length w.processes → (IsCommittedSince w ss → ⊥) → (rewind w ss).0 ≡ Ok (Undone (rewound_steps ss w.processes))

abbrev pub RewindAnswersLaw : Type 0 → Type 0
RewindAnswersLaw S = (w : World S) (ss : List ℕ) → length w.columns ≡ length w.processes → RewindAnswers w ss
