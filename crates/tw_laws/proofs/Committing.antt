-- When a rewind is refused.
use Rattle.std.proofs.Common.{◌≡◌, ℕ, zero, suc, ◌≤◌, ◌<◌, List, [], ◌∷◌, ◌++◌, length, Bool, true, false, cond, not, ◌&&◌, ◌||◌, true≢false, Some, refl, sym, ap, ◌∙◌, subst, arith, ⊎_elim}
use Rattle.std.specs.Prelude.{slice_get, ◌==◌, ◌≢◌, nat_lt, nat_le, Ok, Err}
use Rattle.std.proofs.lemmas.Bool.{and_parts, and_from, or_cases, or_left, or_right, leb-true, le-leb, ltb-true, lt-ltb, eq-eqb, ne_eqb, cases_Bool}
use Rattle.std.proofs.lemmas.Option.{same_Some, none-some}
use Rattle.tw_msgs.specs.declared.record.Record.{Record}
use Rattle.tw_theory.specs.Contents.{Process, records_of}
use Rattle.tw_theory.specs.Executive.{World, Answer, Undone, NoSuch, Committed, column_of}
use Rattle.tw_theory.specs.Marks.{any_between, any_committed, rewound, rewound_steps, rewind}
use Rattle.tw_laws.specs.Rewinding.{IsCommittedSince, RewindAnswers, RewindAnswersLaw}

-- ---- a record between two stamps

between_at : (s g : ℕ) (rs : List Record) → any_between s g rs ≡ true → (i : ℕ) × (r : Record) × (slice_get rs i ≡ Some r) × (s ≤ r.stamp) × (r.stamp < g)
between_at s g [] e = absurd (true≢false (sym e))
between_at s g (r ∷ rs) e =
    ⊎_elim
    (λ here. let parts = and_parts (nat_le s r.stamp) (nat_lt r.stamp g) here in (0, r, refl, leb-true s r.stamp parts.0, ltb-true r.stamp g parts.1))
    (λ later. let found = between_at s g rs later in (suc found.0, found.1, found.2, found.3, found.4))
    (or_cases (nat_le s r.stamp && nat_lt r.stamp g) (any_between s g rs) e)

at_between : (s g : ℕ) (rs : List Record) (i : ℕ) (r : Record) → slice_get rs i ≡ Some r → s ≤ r.stamp → r.stamp < g → any_between s g rs ≡ true
at_between s g [] i r at l k = absurd (none-some r at)
at_between s g (x ∷ rs) zero r at l k =
    let same : x ≡ r = same_Some x r at in
    let e = ap (λ (y : Record). y.stamp) same in
    or_left (nat_le s x.stamp && nat_lt x.stamp g) (any_between s g rs) (and_from (nat_le s x.stamp) (nat_lt x.stamp g) (le-leb s x.stamp (omega (arith, e))) (lt-ltb x.stamp g (omega (arith, e))))
at_between s g (x ∷ rs) (suc i) r at l k = or_right (nat_le s x.stamp && nat_lt x.stamp g) (any_between s g rs) (at_between s g rs i r at l k)

in_left : (s g : ℕ) (xs ys : List Record) → any_between s g xs ≡ true → any_between s g (xs ++ ys) ≡ true
in_left s g [] ys e = absurd (true≢false (sym e))
in_left s g (x ∷ xs) ys e =
    let here = nat_le s x.stamp && nat_lt x.stamp g in
    ⊎_elim (λ k. or_left here (any_between s g (xs ++ ys)) k) (λ k. or_right here (any_between s g (xs ++ ys)) (in_left s g xs ys k)) (or_cases here (any_between s g xs) e)

in_right : (s g : ℕ) (xs ys : List Record) → any_between s g ys ≡ true → any_between s g (xs ++ ys) ≡ true
in_right s g [] ys e = e
in_right s g (x ∷ xs) ys e = or_right (nat_le s x.stamp && nat_lt x.stamp g) (any_between s g (xs ++ ys)) (in_right s g xs ys e)

in_one : (s g : ℕ) (xs ys : List Record) → any_between s g (xs ++ ys) ≡ true → (any_between s g xs || any_between s g ys) ≡ true
in_one s g [] ys e = e
in_one s g (x ∷ xs) ys e =
    let here = nat_le s x.stamp && nat_lt x.stamp g in
    ⊎_elim
    (λ k. or_left (here || any_between s g xs) (any_between s g ys) (or_left here (any_between s g xs) k))
    (λ k. ⊎_elim (λ a. or_left (here || any_between s g xs) (any_between s g ys) (or_right here (any_between s g xs) a)) (λ a. or_right (here || any_between s g xs) (any_between s g ys) a) (or_cases (any_between s g xs) (any_between s g ys) (in_one s g xs ys k)))
    (or_cases here (any_between s g (xs ++ ys)) e)

-- ---- of all components

found_in : {S : Type 0} (g : ℕ) (ss : List ℕ) (ps : List (Process S)) (columns : List (List Record)) → any_committed g ss ps columns ≡ true
    → (c mark : ℕ) × (p : Process S) × (slice_get ss c ≡ Some mark) × (slice_get ps c ≡ Some p) × (any_between mark g (column_of columns c ++ records_of p.history) ≡ true)
found_in g [] ps columns e = absurd (true≢false (sym e))
found_in g (s ∷ ss) [] columns e = absurd (true≢false (sym e))
found_in g (s ∷ ss) (p ∷ ps) [] e = absurd (true≢false (sym e))
found_in g (s ∷ ss) (p ∷ ps) (column ∷ columns) e =
    let held = records_of p.history in
    let here = any_between s g column || any_between s g held in
    ⊎_elim
    (λ k. (0, s, p, refl, refl, ⊎_elim (λ a. in_left s g column held a) (λ a. in_right s g column held a) (or_cases (any_between s g column) (any_between s g held) k)))
    (λ k. let found = found_in g ss ps columns k in (suc found.0, found.1, found.2, found.3, found.4, found.5))
    (or_cases here (any_committed g ss ps columns) e)

found_from : {S : Type 0} (g : ℕ) (ss : List ℕ) (ps : List (Process S)) (columns : List (List Record)) → length columns ≡ length ps → (c mark : ℕ) (p : Process S)
    → slice_get ss c ≡ Some mark → slice_get ps c ≡ Some p → any_between mark g (column_of columns c ++ records_of p.history) ≡ true → any_committed g ss ps columns ≡ true
found_from g [] ps columns n c mark p a b e = absurd (none-some mark a)
found_from g (s ∷ ss) [] columns n c mark p a b e = absurd (none-some p b)
found_from g (s ∷ ss) (q ∷ ps) [] n c mark p a b e = absurd (omega arith)
found_from {S} g (s ∷ ss) (q ∷ ps) (column ∷ columns) n zero mark p a b e =
    let same : any_between s g (column ++ records_of q.history) ≡ true =
    subst (λ k. any_between k g (column ++ records_of q.history) ≡ true) (sym (same_Some s mark a)) (subst (λ (x : Process S). any_between mark g (column ++ records_of x.history) ≡ true) (sym (same_Some q p b)) e) in
    or_left (any_between s g column || any_between s g (records_of q.history)) (any_committed g ss ps columns) (in_one s g column (records_of q.history) same)
found_from g (s ∷ ss) (q ∷ ps) (column ∷ columns) n (suc c) mark p a b e =
    or_right (any_between s g column || any_between s g (records_of q.history)) (any_committed g ss ps columns) (found_from g ss ps columns (omega arith) c mark p a b e)

-- ---- the answer

module _ {S : Type 0} (w : World S) (ss : List ℕ) (n : length w.columns ≡ length w.processes) where
  since : any_committed w.gvt ss w.processes w.columns ≡ true → IsCommittedSince w ss
  since e =
      let found = found_in w.gvt ss w.processes w.columns e in
      let entry = between_at found.1 w.gvt (column_of w.columns found.0 ++ records_of found.2.history) found.5 in
      record { component = found.0; mark = found.1; process = found.2; mark_at = found.3; process_at = found.4; place = entry.0; entry = entry.1; entry_at = entry.2; since = entry.3; before = entry.4 }

  is_since : IsCommittedSince w ss → any_committed w.gvt ss w.processes w.columns ≡ true
  is_since h =
      found_from w.gvt ss w.processes w.columns n h.component h.mark h.process h.mark_at h.process_at
      (at_between h.mark w.gvt (column_of w.columns h.component ++ records_of h.process.history) h.place h.entry h.entry_at h.since h.before)

  -- what it gives, and its answer, by the two tests
  abbrev outcome : Bool → Bool → Answer × World S
  outcome same committed = cond (not same) (Err NoSuch, w) (cond committed (Err Committed, w) (Ok (Undone (rewound_steps ss w.processes)), record w { processes = rewound ss w.processes }))

  abbrev answer : Bool → Bool → Answer
  answer same committed = (outcome same committed).0

  answer_is : (same committed : Bool) → (length ss == length w.processes) ≡ same → any_committed w.gvt ss w.processes w.columns ≡ committed → (rewind w ss).0 ≡ answer same committed
  unfolding rewind
  answer_is same committed e f = λ i. answer (e i) (f i)

  wrong_answer : length ss ≢ length w.processes → (rewind w ss).0 ≡ Err NoSuch
  wrong_answer ne = answer_is false (any_committed w.gvt ss w.processes w.columns) (ne_eqb (length ss) (length w.processes) ne) refl

  right : (committed : Bool) → length ss ≡ length w.processes → any_committed w.gvt ss w.processes w.columns ≡ committed → (rewind w ss).0 ≡ answer true committed
  right committed e f = answer_is true committed (eq-eqb (length ss) (length w.processes) e) f

  never_wrong : (committed : Bool) → answer true committed ≡ Err NoSuch → ⊥
  never_wrong true e = let bad : Err Committed ≡ Err NoSuch = e in cc
  never_wrong false e = let bad : Ok (Undone (rewound_steps ss w.processes)) ≡ Err NoSuch = e in cc

  never_refused : Ok (Undone (rewound_steps ss w.processes)) ≡ Err Committed → ⊥
  never_refused bad = cc

  pub rewind_answer : RewindAnswers w ss
  rewind_answer = record {
    wrong = (λ e same. never_wrong (any_committed w.gvt ss w.processes w.columns) (sym (right (any_committed w.gvt ss w.processes w.columns) same refl) ∙ e), wrong_answer);
    committed = λ same. (
      λ e. ⊎_elim (λ k. since k) (λ k. absurd (never_refused (sym (right false same k) ∙ e))) (cases_Bool (any_committed w.gvt ss w.processes w.columns)),
      λ h. right true same (is_since h),
    );
    taken = λ same none. ⊎_elim (λ k. absurd (none (since k))) (λ k. right false same k) (cases_Bool (any_committed w.gvt ss w.processes w.columns));
  }

pub rewind_answers : {S : Type 0} → RewindAnswersLaw S
rewind_answers w ss n = rewind_answer w ss n
