-- The inverse of the whole: steps on any components, and a rewind to the marks taken before them.
use Rattle.std.specs.Prelude.{ℕ, ◌+◌, ◌≤◌, ◌≡◌, ◌≢◌, List, [], ◌∷◌, ◌++◌, length, Some, slice_get, Ok}
use Rattle.tw_msgs.specs.Counting.{total}
use Rattle.tw_msgs.specs.declared.message.Message.{Message}
use Rattle.tw_vtime.specs.Stamps.{max_tick}
use Rattle.tw_theory.specs.Bundles.{positives, antis, sent_anew}
use Rattle.tw_theory.specs.Contents.{Process, next, Aggressive, Lazy, with_lists, with_outgoing, sent_by, unsent_by}
use Rattle.tw_theory.specs.Executive.{Action, World, Answer, Undone, act, replay}
use Rattle.tw_theory.specs.LocalRun.{Step}
use Rattle.tw_theory.specs.Marks.{marks, rewind}
use Rattle.tw_theory.specs.Network.{Network, IsNetwork}
use Rattle.tw_theory.specs.Soundness.{IsSound}

-- r is p after these steps, and q is p after they were made and taken back: all else of it is as it was. Aggressive: the outgoing list is the old one, then each message sent since, once positive and once as an anti-message.
-- Lazy: the outgoing list is the old one, then each message sent anew, once, positive; what is owed is, in some order, what was owed and each of these once
pub record IsRestoredBy {S : Type 0} (steps : List (Step S)) (p r q : Process S) : Type 0 where
  pub made : r.history ≡ p.history ++ steps
  pub aggressive : p.cancel ≡ Aggressive → q ≡ with_outgoing p ((p.outgoing ++ positives (sent_by steps)) ++ antis (unsent_by steps))
  pub lazy : p.cancel ≡ Lazy → q ≡ with_lists p (p.outgoing ++ positives (sent_anew p.owed (sent_by steps))) q.owed
  pub lazy_owed : p.cancel ≡ Lazy → (weight : Message → ℕ) → total weight q.owed ≡ total weight p.owed + total weight (sent_anew p.owed (sent_by steps))

-- each process is restored from the steps listed for it, by way of where they led
abbrev pub RestoredAll : {S : Type 0} → List (List (Step S)) → List (Process S) → List (Process S) → List (Process S) → Type 0
RestoredAll [] [] [] [] = Unit {0}
RestoredAll (steps ∷ all) (p ∷ ps) (r ∷ rs) (q ∷ qs) = IsRestoredBy steps p r q × RestoredAll all ps rs qs
RestoredAll [] [] [] (q ∷ qs) = ⊥
RestoredAll [] [] (r ∷ rs) qs = ⊥
RestoredAll [] (p ∷ ps) rs qs = ⊥
RestoredAll (steps ∷ all) [] rs qs = ⊥
RestoredAll (steps ∷ all) (p ∷ ps) [] qs = ⊥
RestoredAll (steps ∷ all) (p ∷ ps) (r ∷ rs) [] = ⊥

abbrev pub count_all : {X : Type 0} → List (List X) → ℕ
count_all [] = 0
count_all (xs ∷ xss) = length xs + count_all xss

abbrev pub steps_of : List ℕ → List Action
steps_of [] = []
steps_of (c ∷ cs) = Action.Step c ∷ steps_of cs

-- Steps on any components, which led from w to reached, and a rewind to the marks taken before them restore everything but what is outgoing and owed. The answer is the number of those steps
pub record IsRestored {S : Type 0} (w reached : World S) (undone : Answer × World S) : Type 0 where
  pub made : List (List (Step S))
  pub processes : RestoredAll made w.processes reached.processes undone.1.processes
  pub answer : undone.0 ≡ Ok (Undone (count_all made))
  pub mail : undone.1.mail ≡ w.mail
  pub columns : undone.1.columns ≡ w.columns
  pub gvt : undone.1.gvt ≡ w.gvt

-- w after steps on these components; and then rewound to the marks of w
abbrev pub stepped : {S : Type 0} → Network S → ℕ → World S → List ℕ → World S
stepped net until w cs = replay net until w (steps_of cs)

abbrev pub stepped_and_rewound : {S : Type 0} → Network S → ℕ → World S → List ℕ → Answer × World S
stepped_and_rewound net until w cs = rewind (stepped net until w cs) (marks w.processes)

-- For every sound executive and every list of steps
abbrev pub InverseLaw : Type 0 → Type 0
InverseLaw S =
    (net : Network S) (until : ℕ) (w : World S) (cs : List ℕ) → IsNetwork net → until ≤ max_tick → IsSound net until w
    → IsRestored w (stepped net until w cs) (stepped_and_rewound net until w cs)

-- ---- Back to the mark of one component

-- After steps that led from w to reached, Back to component c's mark restores its process p from its own steps, whose number is the answer, and leaves all else as reached
pub record IsOneRestored {S : Type 0} (w reached : World S) (undone : Answer × World S) (c : ℕ) (p : Process S) : Type 0 where
  pub steps : List (Step S)
  pub middle : Process S
  pub restored : Process S
  pub middle_at : slice_get reached.processes c ≡ Some middle
  pub restored_at : slice_get undone.1.processes c ≡ Some restored
  pub process : IsRestoredBy steps p middle restored
  pub answer : undone.0 ≡ Ok (Undone (length steps))
  pub others : (d : ℕ) → d ≢ c → slice_get undone.1.processes d ≡ slice_get reached.processes d
  pub mail : undone.1.mail ≡ w.mail
  pub columns : undone.1.columns ≡ w.columns
  pub gvt : undone.1.gvt ≡ w.gvt

-- w after steps on these components, and then Back of component c to the mark of its process p in w
abbrev pub stepped_and_back : {S : Type 0} → Network S → ℕ → World S → List ℕ → ℕ → Process S → Answer × World S
stepped_and_back net until w cs c p = act net until (stepped net until w cs) (Action.Back c (next p))

-- For every sound executive, every list of steps on any components, and each component
abbrev pub BackRestores : Type 0 → Type 0
BackRestores S =
    (net : Network S) (until : ℕ) (w : World S) (cs : List ℕ) (c : ℕ) (p : Process S) → IsNetwork net → until ≤ max_tick → IsSound net until w → slice_get w.processes c ≡ Some p
    → IsOneRestored w (stepped net until w cs) (stepped_and_back net until w cs c p) c p
