-- Steps on any components, and a rewind to the marks before them.
use Rattle.std.proofs.Common.{◌≡◌, ℕ, zero, suc, ◌≤◌, List, [], ◌∷◌, ◌++◌, length, cond, Option, Some, None, Result, Ok, Err, refl, sym, ap, ◌∙◌, subst, arith, length-append}
use Rattle.std.specs.Prelude.{nat_lt, slice_get, slice_set, ◌≢◌, Ok, Err}
use Rattle.std.proofs.lemmas.Bool.{cond_both, lt-ltb, le-ltb}
use Rattle.std.proofs.lemmas.Option.{same_Some, none-some}
use Rattle.tw_msgs.specs.Counting.{total}
use Rattle.tw_msgs.proofs.Totals.{total-append}
use Rattle.tw_vtime.specs.Stamps.{stamp}
use Rattle.tw_theory.specs.Bundles.{Ascending, first_stamp, positives, sent_anew, still_owed}
use Rattle.tw_theory.specs.Contents.{Process, next, Lazy, with_step, with_lists, back_to_first, cut, steps_before, steps_from, sent_by, unsent_by}
use Rattle.tw_theory.specs.Executive.{World, Action, Answer, Undone, BeforeGvt, act, act_step, act_back, if_made, replay, with_process}
use Rattle.tw_theory.specs.LocalRun.{Step, Made, local_step, NoStep}
use Rattle.tw_theory.specs.Marks.{marks, rewound, rewound_steps}
use Rattle.tw_theory.specs.Network.{Network}
use Rattle.tw_theory.specs.Soundness.{AllBefore}
use Rattle.tw_theory.proofs.Owing.{total-anew, total-unsent}
use Rattle.tw_theory.proofs.Steps.{local_step_follows}
use Rattle.tw_theory.proofs.TakingBack.{IsAfter, is_after_none, is_after_more, restored_as, back_to_before}
use Rattle.tw_laws.specs.Inverse.{IsRestoredBy, RestoredAll, IsOneRestored, count_all, steps_of, stepped, stepped_and_back}
use Rattle.tw_laws.proofs.Ordered.{OrderedInverse, IsOrdered, AllOrdered}

-- the first of these steps, if there is one, does not stand before s
abbrev pub NotBefore : {S : Type 0} → ℕ → List (Step S) → Type 0
NotBefore s [] = Unit {0}
NotBefore s (step ∷ steps) = s ≤ step.entry.stamp

-- p' is p after these steps, which stand at or after p's next stamp
record IsReached {S : Type 0} (p p' : Process S) (steps : List (Step S)) : Type 0 where
  after : IsAfter p p' steps
  late : NotBefore (next p) steps
  not_earlier : next p ≤ next p'
  ascending : Ascending p'.pending

late_more : {S : Type 0} (s : ℕ) (steps : List (Step S)) (step : Step S) → NotBefore s steps → s ≤ step.entry.stamp → NotBefore s (steps ++ step ∷ [])
late_more s [] step h l = l
late_more s (x ∷ steps) step h l = h

reached_more : {S : Type 0} (net : Network S) (c : ℕ) (p p' : Process S) (made : Made S) → local_step net c p'.now p'.pending ≡ Ok made
    → (steps : List (Step S)) → IsReached p p' steps → IsReached p (with_step p' made) (steps ++ made.step ∷ [])
reached_more net c p p' made e steps r =
    let f = local_step_follows net c p'.now p'.pending made e in
    let least : next p' ≤ first_stamp p'.pending = omega arith in
    let left = f.ascending r.ascending least in
    record {
      after = is_after_more p p' steps made _ r.after f;
      late = late_more (next p) steps made.step r.late (omega (arith, f.stamp_is, r.not_earlier));
      not_earlier = omega (arith, f.later, left.1, r.not_earlier);
      ascending = left.0;
    }

steps_before-append : {S : Type 0} (s : ℕ) (xs ys : List (Step S)) → AllBefore s xs → NotBefore s ys → steps_before s (xs ++ ys) ≡ length xs
steps_before-append s [] [] all late = refl
steps_before-append s [] (y ∷ ys) all late = ap (λ b. cond b (suc (steps_before s ys)) 0) (le-ltb y.entry.stamp s late)
steps_before-append s (x ∷ xs) ys all late =
    ap (λ b. cond b (suc (steps_before s (xs ++ ys))) 0) (lt-ltb x.entry.stamp s all.0) ∙ ap suc (steps_before-append s xs ys all.1 late)

cut_place : {S : Type 0} (p p' : Process S) (steps : List (Step S)) → IsOrdered p → IsReached p p' steps
    → steps_before (next p) p'.history ≡ length p.history
cut_place p p' steps o r = ap (steps_before (next p)) r.after.history ∙ steps_before-append (next p) p.history steps o.past r.late

cut_restores : {S : Type 0} (p p' : Process S) (steps : List (Step S)) → IsOrdered p → IsReached p p' steps → IsRestoredBy steps p p' (cut (next p) p')
cut_restores {S} p p' steps o r =
    let is : cut (next p) p' ≡ restored_as p.cancel p steps = ap (λ n. back_to_first n p') (cut_place p p' steps o r) ∙ back_to_before p p' steps r.after in
    let lazily = λ (k : p.cancel ≡ Lazy). is ∙ ap (λ x. restored_as x p steps) k in
    record {
      made = r.after.history;
      aggressive = λ k. is ∙ ap (λ x. restored_as x p steps) k;
      lazy = λ k. lazily k ∙ ap (λ (q : Process S). with_lists p (p.outgoing ++ positives (sent_anew p.owed (sent_by steps))) q.owed) (sym (lazily k));
      lazy_owed = λ k weight.
          omega (arith, ap (λ (q : Process S). total weight q.owed) (lazily k), total-append weight (still_owed p.owed (sent_by steps)) (unsent_by steps), total-anew weight p.owed (sent_by steps), total-unsent weight steps);
    }

cut_count : {S : Type 0} (p p' : Process S) (steps : List (Step S)) → IsOrdered p → IsReached p p' steps → steps_from (next p) p' ≡ length steps
cut_count p p' steps o r = omega (arith, cut_place p p' steps o r, ap length r.after.history, length-append p.history steps)

-- ---- all processes

abbrev AllReached : {S : Type 0} → List (List (Step S)) → List (Process S) → List (Process S) → Type 0
AllReached [] [] [] = Unit {0}
AllReached (steps ∷ all) (p ∷ ps) (q ∷ qs) = IsReached p q steps × AllReached all ps qs
AllReached [] [] (q ∷ qs) = ⊥
AllReached [] (p ∷ ps) qs = ⊥
AllReached (steps ∷ all) [] qs = ⊥
AllReached (steps ∷ all) (p ∷ ps) [] = ⊥

all_reached_none : {S : Type 0} (ps : List (Process S)) → AllOrdered ps → (all : List (List (Step S))) × AllReached all ps ps
all_reached_none [] o = ([], tt)
all_reached_none (p ∷ ps) o =
    let rest = all_reached_none ps o.1 in
    let here : IsReached p p [] = record { after = is_after_none p; late = tt; not_earlier = omega arith; ascending = o.0.ascending } in
    ([] ∷ rest.0, (here, rest.1))

all_reached_set : {S : Type 0} (all : List (List (Step S))) (ps qs : List (Process S)) (c : ℕ) (q q' : Process S) (step : Step S)
    → AllReached all ps qs → slice_get qs c ≡ Some q
    → ((p : Process S) (steps : List (Step S)) → IsReached p q steps → IsReached p q' (steps ++ step ∷ []))
    → (all' : List (List (Step S))) × AllReached all' ps (slice_set qs c q')
all_reached_set [] [] [] c q q' step r e more = ([], tt)
all_reached_set [] [] (x ∷ qs) c q q' step r e more = absurd r
all_reached_set [] (p ∷ ps) qs c q q' step r e more = absurd r
all_reached_set (steps ∷ all) [] qs c q q' step r e more = absurd r
all_reached_set (steps ∷ all) (p ∷ ps) [] c q q' step r e more = absurd r
all_reached_set (steps ∷ all) (p ∷ ps) (x ∷ qs) zero q q' step r e more =
    ((steps ++ step ∷ []) ∷ all, (more p steps (subst (λ y. IsReached p y steps) (same_Some x q e) r.0), r.1))
all_reached_set (steps ∷ all) (p ∷ ps) (x ∷ qs) (suc c) q q' step r e more =
    let rest = all_reached_set all ps qs c q q' step r.1 e more in
    (steps ∷ rest.0, (r.0, rest.1))

restored_all : {S : Type 0} (all : List (List (Step S))) (ps qs : List (Process S)) → AllOrdered ps → AllReached all ps qs
    → RestoredAll all ps qs (rewound (marks ps) qs) × (rewound_steps (marks ps) qs ≡ count_all all)
restored_all [] [] [] o r = (tt, refl)
restored_all [] [] (x ∷ qs) o r = absurd r
restored_all [] (p ∷ ps) qs o r = absurd r
restored_all (steps ∷ all) [] qs o r = absurd r
restored_all (steps ∷ all) (p ∷ ps) [] o r = absurd r
restored_all (steps ∷ all) (p ∷ ps) (q ∷ qs) o r =
    let rest = restored_all all ps qs o.1 r.1 in
    ((cut_restores p q steps o.0 r.0, rest.0), rw (cut_count p q steps o.0 r.0, rest.1) refl)

-- ---- the world

record WorldReached {S : Type 0} (w w' : World S) : Type 0 where
  all : List (List (Step S))
  processes : AllReached all w.processes w'.processes
  mail : w'.mail ≡ w.mail
  columns : w'.columns ≡ w.columns
  gvt : w'.gvt ≡ w.gvt

module _ {S : Type 0} (net : Network S) (until : ℕ) (w : World S) where
  made_reached : (w' : World S) (c : ℕ) (p' : Process S) (r : Result (Made S) NoStep) → WorldReached w w' → slice_get w'.processes c ≡ Some p'
      → local_step net c p'.now p'.pending ≡ r → WorldReached w (if_made w' c p' r).1
  made_reached w' c p' (Ok made) h at e =
      let set = all_reached_set h.all w.processes w'.processes c p' (with_step p' made) made.step h.processes at (λ p steps r. reached_more net c p p' made e steps r) in
      record { all = set.0; processes = set.1; mail = h.mail; columns = h.columns; gvt = h.gvt }
  made_reached w' c p' (Err why) h at e = h

  step_reached : (w' : World S) (c : ℕ) (o : Option (Process S)) → WorldReached w w' → slice_get w'.processes c ≡ o
      → WorldReached w (act_step net until w' c o).1
  step_reached w' c None h at = h
  step_reached w' c (Some p') h at =
      cond_both (nat_lt (next p') (stamp until 0 0)) _ _ (λ (r : Answer × World S). WorldReached w r.1)
      (λ e. made_reached w' c p' (local_step net c p'.now p'.pending) h at refl)
      (λ e. h)

  replay_reached : (w' : World S) (cs : List ℕ) → WorldReached w w' → WorldReached w (replay net until w' (steps_of cs))
  unfolding act
  replay_reached w' [] h = h
  replay_reached w' (c ∷ cs) h = replay_reached (act net until w' (Action.Step c)).1 cs (step_reached w' c (slice_get w'.processes c) h refl)

pub ordered_inverse : {S : Type 0} → OrderedInverse S
ordered_inverse {S} net until w cs o =
    let start = all_reached_none w.processes o in
    let h = replay_reached net until w w cs (record { all = start.0; processes = start.1; mail = refl; columns = refl; gvt = refl }) in
    let back = restored_all h.all w.processes (replay net until w (steps_of cs)).processes o h.processes in
    (h.all, back.0, back.1, h.mail, h.columns, h.gvt)

-- ---- back to the mark of one component

reached_at : {S : Type 0} (all : List (List (Step S))) (ps qs : List (Process S)) (c : ℕ) (p : Process S) → AllReached all ps qs → slice_get ps c ≡ Some p
    → (steps : List (Step S)) × (q : Process S) × (slice_get qs c ≡ Some q) × IsReached p q steps
reached_at [] [] [] c p r e = absurd (none-some p e)
reached_at [] [] (x ∷ qs) c p r e = absurd r
reached_at [] (y ∷ ps) qs c p r e = absurd r
reached_at (steps ∷ all) [] qs c p r e = absurd r
reached_at (steps ∷ all) (y ∷ ps) [] c p r e = absurd r
reached_at (steps ∷ all) (y ∷ ps) (x ∷ qs) zero p r e = (steps, x, refl, subst (λ z. IsReached z x steps) (same_Some y p e) r.0)
reached_at (steps ∷ all) (y ∷ ps) (x ∷ qs) (suc c) p r e = reached_at all ps qs c p r.1 e

pub set_here : {X : Type 0} (xs : List X) (c : ℕ) (x y : X) → slice_get xs c ≡ Some x → slice_get (slice_set xs c y) c ≡ Some y
set_here [] c x y e = absurd (none-some x e)
set_here (z ∷ xs) zero x y e = refl
set_here (z ∷ xs) (suc c) x y e = set_here xs c x y e

pub set_there : {X : Type 0} (xs : List X) (c d : ℕ) (y : X) → d ≢ c → slice_get (slice_set xs c y) d ≡ slice_get xs d
set_there [] c d y ne = refl
set_there (z ∷ xs) zero zero y ne = absurd (ne refl)
set_there (z ∷ xs) zero (suc d) y ne = refl
set_there (z ∷ xs) (suc c) zero y ne = refl
set_there (z ∷ xs) (suc c) (suc d) y ne = set_there xs c d y (λ e. ne (ap suc e))

pub back_is : {S : Type 0} (net : Network S) (until : ℕ) (w : World S) (c s : ℕ) (p : Process S) → slice_get w.processes c ≡ Some p → w.gvt ≤ s
    → act net until w (Action.Back c s) ≡ (Ok (Undone (steps_from s p)), with_process w c (cut s p))
unfolding act
back_is {S} net until w c s p at l =
    let refused : Answer × World S = (Err BeforeGvt, w) in
    ap (act_back w c s) at ∙ ap (λ b. cond b refused (Ok (Undone (steps_from s p)), with_process w c (cut s p))) (le-ltb s w.gvt l)

pub ordered_back : {S : Type 0} (net : Network S) (until : ℕ) (w : World S) (cs : List ℕ) (c : ℕ) (p : Process S) → AllOrdered w.processes → IsOrdered p
    → slice_get w.processes c ≡ Some p → w.gvt ≤ next p
    → IsOneRestored w (stepped net until w cs) (stepped_and_back net until w cs c p) c p
ordered_back {S} net until w cs c p o mine at l =
    let reached = replay net until w (steps_of cs) in
    let start = all_reached_none w.processes o in
    let h = replay_reached net until w w cs (record { all = start.0; processes = start.1; mail = refl; columns = refl; gvt = refl }) in
    let found = reached_at h.all w.processes reached.processes c p h.processes at in
    let is = back_is net until reached c (next p) found.1 found.2 (omega (arith, h.gvt, l)) in
    subst (λ (r : Answer × World S). IsOneRestored w reached r c p) (sym is)
    (record {
      steps = found.0;
      middle = found.1;
      restored = cut (next p) found.1;
      middle_at = found.2;
      restored_at = set_here reached.processes c found.1 (cut (next p) found.1) found.2;
      process = cut_restores p found.1 found.0 mine found.3;
      answer = ap (λ n. Ok (Undone n)) (cut_count p found.1 found.0 mine found.3);
      others = λ d ne. set_there reached.processes c d (cut (next p) found.1) ne;
      mail = h.mail;
      columns = h.columns;
      gvt = h.gvt;
    })
