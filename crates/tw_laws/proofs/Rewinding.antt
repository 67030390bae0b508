-- A rewind keeps an executive sound; and where only steps came since the marks, it restores what was.
use Rattle.std.proofs.Common.{◌≡◌, ℕ, zero, suc, ◌+◌, ◌≤◌, max, List, [], ◌∷◌, length, Bool, true, false, cond, not, ◌&&◌, ◌||◌, Some, refl, sym, ap, ◌∙◌, subst, arith, ⊎_elim}
use Rattle.std.specs.Prelude.{slice_get, slice_index_or, ◌==◌, nat_lt, nat_le, Ok}
use Rattle.std.proofs.lemmas.Bool.{cond_both, or_parts, and_cases, lt-ltb, le-ltb, ltb-true, ltb-false, leb-false, leb-true, eqb-true, eq-eqb, cases_lt, not-false}
use Rattle.std.proofs.lemmas.Option.{same_Some, none-some}
use Rattle.tw_msgs.specs.Counting.{total}
use Rattle.tw_msgs.specs.declared.message.Item.{Item}
use Rattle.tw_msgs.specs.declared.message.Message.{Message}
use Rattle.tw_msgs.specs.declared.record.Record.{Record}
use Rattle.tw_vtime.specs.Stamps.{never, max_tick}
use Rattle.tw_theory.specs.Balance.{issued, held}
use Rattle.tw_theory.specs.Bundles.{least_stamp, least_owed}
use Rattle.tw_theory.specs.Contents.{Process, next, inputs, cut, back_to_first, steps_before, records_of}
use Rattle.tw_theory.specs.Executive.{World, Answer, Undone, replay, mail_of, least_next}
use Rattle.tw_theory.specs.LocalRun.{Step}
use Rattle.tw_theory.specs.Marks.{marks, rewound_steps, any_between, any_committed, rewound, rewind}
use Rattle.tw_theory.specs.Network.{Network, IsNetwork}
use Rattle.tw_theory.specs.Soundness.{IsSoundProcess, IsSound}
use Rattle.tw_theory.proofs.Leasts.{least_mail_top}
use Rattle.tw_laws.specs.Inverse.{RestoredAll, steps_of, IsRestored, InverseLaw, BackRestores}
use Rattle.tw_laws.proofs.Cancelling.{rewound_cancels}
use Rattle.tw_laws.proofs.Changing.{process_from_least}
use Rattle.tw_laws.proofs.Cutting.{IsCutOf, cut_sound}
use Rattle.tw_laws.proofs.Inverse.{ordered_inverse, ordered_back}
use Rattle.tw_laws.proofs.Ordered.{IsOrdered, AllOrdered}
use Rattle.tw_laws.proofs.Runs.{in_order}
use Rattle.tw_laws.proofs.Stepping.{all_odd, inputs_ascending}

-- ---- a cut before gvt that meets no step before gvt

same_place : {S : Type 0} (s g : ℕ) (steps : List (Step S)) → any_between s g (records_of steps) ≡ false
    → steps_before s steps ≡ steps_before (max s g) steps
same_place s g [] e = refl
same_place s g (x ∷ steps) e =
    let parts = or_parts _ _ e in
    let rest = same_place s g steps parts.1 in
    ⊎_elim
    (λ l.
    ap (λ b. cond b (suc (steps_before s steps)) 0) (lt-ltb x.entry.stamp s l)
    ∙ ap suc rest
    ∙ sym (ap (λ b. cond b (suc (steps_before (max s g) steps)) 0) (lt-ltb x.entry.stamp (max s g) (omega arith))))
    (λ l.
    let later : g ≤ x.entry.stamp = ⊎_elim (λ f. absurd (let k = leb-false s x.entry.stamp f in omega arith)) (λ f. ltb-false x.entry.stamp g f) (and_cases _ _ parts.0) in
    ap (λ b. cond b (suc (steps_before s steps)) 0) (le-ltb x.entry.stamp s l) ∙ sym (ap (λ b. cond b (suc (steps_before (max s g) steps)) 0) (le-ltb x.entry.stamp (max s g) (omega arith))))
    (cases_lt x.entry.stamp s)

same_cut : {S : Type 0} (s g : ℕ) (p : Process S) → any_between s g (records_of p.history) ≡ false → cut (max s g) p ≡ cut s p
same_cut s g p e = ap (λ n. back_to_first n p) (sym (same_place s g p.history e))

free_at : {S : Type 0} (g : ℕ) (ss : List ℕ) (ps : List (Process S)) (columns : List (List Record)) → any_committed g ss ps columns ≡ false
    → length columns ≡ length ps → (c s : ℕ) (p : Process S) → slice_get ss c ≡ Some s → slice_get ps c ≡ Some p
    → any_between s g (records_of p.history) ≡ false
free_at g [] ps columns e n c s p a b = absurd (none-some s a)
free_at g (x ∷ ss) [] columns e n c s p a b = absurd (none-some p b)
free_at g (x ∷ ss) (y ∷ ps) [] e n c s p a b = absurd (omega arith)
free_at {S} g (x ∷ ss) (y ∷ ps) (column ∷ columns) e n zero s p a b =
    subst (λ k. any_between k g (records_of p.history) ≡ false) (same_Some x s a) (subst (λ (q : Process S). any_between x g (records_of q.history) ≡ false) (same_Some y p b) (or_parts _ _ (or_parts _ _ e).0).1)
free_at g (x ∷ ss) (y ∷ ps) (column ∷ columns) e n (suc c) s p a b = free_at g ss ps columns (or_parts _ _ e).1 (omega arith) c s p a b

-- ---- all processes

rewound_get : {S : Type 0} (ss : List ℕ) (ps : List (Process S)) (c : ℕ) (q : Process S) → length ss ≡ length ps
    → slice_get (rewound ss ps) c ≡ Some q
    → (s : ℕ) × (p : Process S) × (slice_get ss c ≡ Some s) × (slice_get ps c ≡ Some p) × (q ≡ cut s p)
rewound_get [] [] c q n e = absurd (none-some q e)
rewound_get [] (p ∷ ps) c q n e = absurd (omega arith)
rewound_get (s ∷ ss) [] c q n e = absurd (omega arith)
rewound_get (s ∷ ss) (p ∷ ps) zero q n e = (s, p, refl, refl, sym (same_Some (cut s p) q e))
rewound_get (s ∷ ss) (p ∷ ps) (suc c) q n e = rewound_get ss ps c q (omega arith) e

length-rewound : {S : Type 0} (ss : List ℕ) (ps : List (Process S)) → length (rewound ss ps) ≡ length ps
length-rewound [] ps = refl
length-rewound (s ∷ ss) [] = refl
length-rewound (s ∷ ss) (p ∷ ps) = ap suc (length-rewound ss ps)

rewound_totals : {S : Type 0} (weight : Message → ℕ) (ss : List ℕ) (ps : List (Process S))
    → ((c s : ℕ) (p : Process S) → slice_get ss c ≡ Some s → slice_get ps c ≡ Some p → issued weight (cut s p) + held weight p ≡ issued weight p + held weight (cut s p))
    → total (issued weight) (rewound ss ps) + total (held weight) ps ≡ total (issued weight) ps + total (held weight) (rewound ss ps)
rewound_totals weight [] ps h = refl
rewound_totals weight (s ∷ ss) [] h = refl
rewound_totals weight (s ∷ ss) (p ∷ ps) h = omega (arith, h 0 s p refl refl, rewound_totals weight ss ps (λ c t q a b. h (suc c) t q a b))

rewound_least : {S : Type 0} (g : ℕ) (ss : List ℕ) (ps : List (Process S)) → g ≤ least_next ps
    → ((c s : ℕ) (p : Process S) → slice_get ss c ≡ Some s → slice_get ps c ≡ Some p → (g ≤ next (cut s p)) × (g ≤ least_stamp (cut s p).outgoing) × (g ≤ least_owed (cut s p).owed))
    → g ≤ least_next (rewound ss ps)
rewound_least g [] ps l h = l
rewound_least g (s ∷ ss) [] l h = l
rewound_least g (s ∷ ss) (p ∷ ps) l h =
    let rest = rewound_least g ss ps (omega arith) (λ c t q a b. h (suc c) t q a b) in
    let here = h 0 s p refl refl in
    let a = here.0 in
    let b = here.1 in
    let d = here.2 in
    omega arith

module _ {S : Type 0} (net : Network S) (until : ℕ) (ok : IsNetwork net) (bound : until ≤ max_tick) where
  cut_at : (w : World S) (ss : List ℕ) → IsSound net until w → any_committed w.gvt ss w.processes w.columns ≡ false → (c s : ℕ) (p : Process S)
      → slice_get ss c ≡ Some s → slice_get w.processes c ≡ Some p
      → IsCutOf net until w.gvt c (slice_index_or w.columns c []) (mail_of w.mail c) p (cut s p) (max s w.gvt)
  cut_at w ss h free c s p a at =
      let old = process_from_least w.gvt w.processes c p (let g = h.gvt_le in omega arith) at in
      let top : w.gvt ≤ never = let g = h.gvt_le in let t = least_mail_top w.mail in omega arith in
      let k = cut_sound net until ok bound w.gvt c (slice_index_or w.columns c []) (mail_of w.mail c) p (max s w.gvt) (h.each c p at) (omega arith) old.0 top old.1 old.2 in
      subst (λ (q : Process S). IsCutOf net until w.gvt c (slice_index_or w.columns c []) (mail_of w.mail c) p q (max s w.gvt)) (same_cut s w.gvt p (free_at w.gvt ss w.processes w.columns free (h.columns ∙ sym h.processes) c s p a at)) k

  rewound_sound : (w : World S) (ss : List ℕ) → IsSound net until w → length ss ≡ length w.processes
      → any_committed w.gvt ss w.processes w.columns ≡ false
      → IsSound net until (record { processes = rewound ss w.processes; mail = w.mail; columns = w.columns; gvt = w.gvt })
  rewound_sound w ss h n free = record {
    processes = length-rewound ss w.processes ∙ h.processes;
    mail = h.mail;
    columns = h.columns;
    each = λ c q e.
        let r = rewound_get ss w.processes c q n e in
        subst (IsSoundProcess net until w.gvt c (slice_index_or w.columns c []) (mail_of w.mail c)) (sym r.4) (cut_at w ss h free c r.0 r.1 r.2 r.3).sound;
    cancel = h.cancel;
    cancels = rewound_cancels h.cancel ss w.processes h.cancels;
    balance = λ weight. omega (arith, h.balance weight, rewound_totals weight ss w.processes (λ c s p a at. (cut_at w ss h free c s p a at).balance weight));
    gvt_le = let g = h.gvt_le in let l = rewound_least w.gvt ss w.processes (omega arith) (λ c s p a at. let k = cut_at w ss h free c s p a at in (k.next, k.outgoing, k.owed)) in omega arith;
  }

  pub rewind_keeps : (w : World S) (ss : List ℕ) → IsSound net until w → IsSound net until (rewind w ss).1
  unfolding rewind
  rewind_keeps w ss h =
      cond_both (not (length ss == length w.processes)) _ _ (λ (r : Answer × World S). IsSound net until r.1)
      (λ e. h)
      (λ e. cond_both (any_committed w.gvt ss w.processes w.columns) _ _ (λ (r : Answer × World S). IsSound net until r.1)
      (λ d. h)
      (λ d. rewound_sound w ss h (eqb-true (length ss) (length w.processes) (not-false _ e)) d))

-- the processes of a sound executive are in order
pub sound_ordered : {S : Type 0} (net : Network S) (until gvt c : ℕ) (column : List Record) (mail : List Item) (p : Process S)
    → IsSoundProcess net until gvt c column mail p → IsOrdered p
sound_ordered net until gvt c column mail p h =
    let order = in_order net c h.from (inputs p) p.history p.now p.pending h.stands (inputs_ascending net c (inputs p) h.for_inputs h.sorted) (all_odd net c (inputs p) h.for_inputs) in
    record { past = order.past; ascending = order.ascending }

all_ordered : {S : Type 0} (ps : List (Process S)) → ((c : ℕ) (p : Process S) → slice_get ps c ≡ Some p → IsOrdered p) → AllOrdered ps
all_ordered [] h = tt
all_ordered (p ∷ ps) h = (h 0 p refl, all_ordered ps (λ c q e. h (suc c) q e))

pub world_ordered : {S : Type 0} (net : Network S) (until : ℕ) (w : World S) → IsSound net until w → AllOrdered w.processes
world_ordered net until w h = all_ordered w.processes (λ c p e. sound_ordered net until w.gvt c _ _ p (h.each c p e))

-- ---- steps and a rewind

no_number : (s g : ℕ) (rs : List Record) → g ≤ s → any_between s g rs ≡ false
no_number s g [] l = refl
no_number s g (r ∷ rs) l = none (nat_le s r.stamp) (nat_lt r.stamp g) (any_between s g rs) (λ a b. let x = leb-true s r.stamp a in let y = ltb-true r.stamp g b in omega arith) (no_number s g rs l)
  where
    none : (a b c : Bool) → (a ≡ true → b ≡ true → ⊥) → c ≡ false → (a && b || c) ≡ false
    none true true c h e = absurd (h refl refl)
    none true false c h e = e
    none false b c h e = e

none_committed : {S : Type 0} (g : ℕ) (ps qs : List (Process S)) (columns : List (List Record)) → g ≤ least_next ps
    → any_committed g (marks ps) qs columns ≡ false
none_committed g [] qs columns l = refl
none_committed g (p ∷ ps) [] columns l = refl
none_committed g (p ∷ ps) (q ∷ qs) [] l = refl
none_committed g (p ∷ ps) (q ∷ qs) (column ∷ columns) l =
    none (no_number (next p) g column (omega arith)) (no_number (next p) g (records_of q.history) (omega arith)) (none_committed g ps qs columns (omega arith))
  where
    none : {a b c : Bool} → a ≡ false → b ≡ false → c ≡ false → (a || b || c) ≡ false
    none e f k = cc

length-marks : {S : Type 0} (ps : List (Process S)) → length (marks ps) ≡ length ps
length-marks [] = refl
length-marks (p ∷ ps) = ap suc (length-marks ps)

length-restored : {S : Type 0} (all : List (List (Step S))) (ps rs qs : List (Process S)) → RestoredAll all ps rs qs → length rs ≡ length ps
length-restored [] [] [] [] h = refl
length-restored [] [] [] (q ∷ qs) h = absurd h
length-restored [] [] (r ∷ rs) qs h = absurd h
length-restored [] (p ∷ ps) rs qs h = absurd h
length-restored (x ∷ all) [] rs qs h = absurd h
length-restored (x ∷ all) (p ∷ ps) [] qs h = absurd h
length-restored (x ∷ all) (p ∷ ps) (r ∷ rs) [] h = absurd h
length-restored (x ∷ all) (p ∷ ps) (r ∷ rs) (q ∷ qs) h = ap suc (length-restored all ps rs qs h.1)

rewind_is : {S : Type 0} (w : World S) (ss : List ℕ) → length ss ≡ length w.processes → any_committed w.gvt ss w.processes w.columns ≡ false
    → rewind w ss ≡ (Ok (Undone (rewound_steps ss w.processes)), record { processes = rewound ss w.processes; mail = w.mail; columns = w.columns; gvt = w.gvt })
unfolding rewind
rewind_is w ss n free = rw (eq-eqb (length ss) (length w.processes) n, free) refl

pub inverse_law : {S : Type 0} → InverseLaw S
inverse_law {S} net until w cs ok bound h =
    let law = ordered_inverse net until w cs (world_ordered net until w h) in
    let after = replay net until w (steps_of cs) in
    let ss = marks w.processes in
    let n : length ss ≡ length after.processes = length-marks w.processes ∙ sym (length-restored law.0 w.processes after.processes (rewound ss after.processes) law.1) in
    let free : any_committed after.gvt ss after.processes after.columns ≡ false =
    ap (λ g. any_committed g ss after.processes after.columns) law.5 ∙ none_committed w.gvt w.processes after.processes after.columns (let g = h.gvt_le in omega arith) in
    let is = rewind_is after ss n free in
    subst (λ (r : Answer × World S). IsRestored w after r) (sym is)
    (record { made = law.0; processes = law.1; answer = ap (λ n. Ok (Undone n)) law.2; mail = law.3; columns = law.4; gvt = law.5 })

pub back_restores : {S : Type 0} → BackRestores S
back_restores net until w cs c p ok bound h at =
    let low = process_from_least w.gvt w.processes c p (let g = h.gvt_le in omega arith) at in
    ordered_back net until w cs c p (world_ordered net until w h) (sound_ordered net until w.gvt c _ _ p (h.each c p at)) at low.0
