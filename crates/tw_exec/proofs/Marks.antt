-- Marks: one process after another, and what a rewind keeps.
use Rattle.std.proofs.Common.{◌≡◌, ℕ, zero, suc, ◌+◌, ◌-◌, ◌<◌, ◌≤◌, Bool, List, [], ◌∷◌, ◌++◌, length, map, take, drop, Some, true, false, ◌||◌, is_ge, nat_cmp, refl, sym, ap, ◌∙◌, subst, arith}
use Rattle.std.specs.List.{AllByRecursion as Each}
use Rattle.std.specs.Prelude.{slice_get, slice_set}
use Rattle.std.proofs.lemmas.Option.{none-some, same_Some, slice_get_within}
use Rattle.std.proofs.lemmas.List.{drop_all}
use Rattle.tw_exec.specs.Rewinding.{at_marks}
use Rattle.tw_exec.proofs.Comparing.{ge, not_ge}
use Rattle.tw_fossils.specs.Columns.{IsRising}
use Rattle.tw_msgs.specs.declared.record.Record.{Record}
use Rattle.tw_process.proofs.Between.{Rises, found, none_earlier}
use Rattle.tw_process.specs.Process.{Held, with_cut}
use Rattle.tw_theory.proofs.Elements.{each-get}
use Rattle.tw_theory.specs.Contents.{Process, next, records_of, steps_from}
use Rattle.tw_theory.specs.Marks.{any_between, any_committed, marks, rewound, rewound_steps}

-- ---- marks

pub marks_push : {S : Type 0} (ps : List (Process S)) (p : Process S) → marks (ps ++ p ∷ []) ≡ marks ps ++ next p ∷ []
marks_push [] p = refl
marks_push (q ∷ ps) p = ap (λ l. next q ∷ l) (marks_push ps p)

-- ---- whether a step since its mark is committed

or_false : (b : Bool) → (b || false) ≡ b
or_false true = refl
or_false false = refl

or_assoc : (a b c : Bool) → ((a || b) || c) ≡ (a || (b || c))
or_assoc true b c = refl
or_assoc false b c = refl

module _ {M S : Type 0} where
  abbrev contents : List (Held M S) → List (Process S)
  contents ps = map (λ p. p.process) ps

  -- one component more
  pub any_more : (g c : ℕ) (ss : List ℕ) (ps : List (Held M S)) (columns : List (List Record)) (s : ℕ) (p : Held M S) (column : List Record)
      → slice_get ss c ≡ Some s → slice_get ps c ≡ Some p → slice_get columns c ≡ Some column
      → any_committed g (take (suc c) ss) (map (λ p. p.process) (take (suc c) ps)) (take (suc c) columns)
      ≡ (any_committed g (take c ss) (map (λ p. p.process) (take c ps)) (take c columns) || (any_between s g column || any_between s g (records_of p.process.history)))
  any_more g c [] ps columns s p column s_at p_at column_at = absurd (none-some s s_at)
  any_more g c (s' ∷ ss) [] columns s p column s_at p_at column_at = absurd (none-some p p_at)
  any_more g c (s' ∷ ss) (p' ∷ ps) [] s p column s_at p_at column_at = absurd (none-some column column_at)
  any_more g zero (s' ∷ ss) (p' ∷ ps) (column' ∷ columns) s p column s_at p_at column_at =
      or_false (any_between s' g column' || any_between s' g (records_of p'.process.history))
      ∙ (λ i. any_between (same_Some s' s s_at i) g (same_Some column' column column_at i) || any_between (same_Some s' s s_at i) g (records_of (same_Some p' p p_at i).process.history))
  any_more g (suc c) (s' ∷ ss) (p' ∷ ps) (column' ∷ columns) s p column s_at p_at column_at =
      let first = any_between s' g column' || any_between s' g (records_of p'.process.history) in
      let rest = any_committed g (take c ss) (contents (take c ps)) (take c columns) in
      let here = any_between s g column || any_between s g (records_of p.process.history) in
      ap (λ x. first || x) (any_more g c ss ps columns s p column s_at p_at column_at) ∙ sym (or_assoc first rest here)

  -- ---- one process after another

  pub same_there : (c : ℕ) (ss : List ℕ) (ps : List (Held M S)) → slice_get (at_marks (take c ss) ps) c ≡ slice_get ps c
  same_there zero ss ps = refl
  same_there (suc c) [] ps = refl
  same_there (suc c) (s ∷ ss) [] = refl
  same_there (suc c) (s ∷ ss) (p ∷ ps) = same_there c ss ps

  pub cut_more : (c : ℕ) (ss : List ℕ) (ps : List (Held M S)) (s : ℕ) (p : Held M S) → slice_get ss c ≡ Some s → slice_get ps c ≡ Some p
      → at_marks (take (suc c) ss) ps ≡ slice_set (at_marks (take c ss) ps) c (with_cut s p)
  cut_more c [] ps s p s_at p_at = absurd (none-some s s_at)
  cut_more c (s' ∷ ss) [] s p s_at p_at = absurd (none-some p p_at)
  cut_more zero (s' ∷ ss) (p' ∷ ps) s p s_at p_at = λ i. with_cut (same_Some s' s s_at i) (same_Some p' p p_at i) ∷ ps
  cut_more (suc c) (s' ∷ ss) (p' ∷ ps) s p s_at p_at = ap (λ l. with_cut s' p' ∷ l) (cut_more c ss ps s p s_at p_at)

  pub steps_more : (c : ℕ) (ss : List ℕ) (ps : List (Held M S)) (s : ℕ) (p : Held M S) → slice_get ss c ≡ Some s → slice_get ps c ≡ Some p
      → rewound_steps (take (suc c) ss) (map (λ p. p.process) ps) ≡ rewound_steps (take c ss) (map (λ p. p.process) ps) + steps_from s p.process
  steps_more c [] ps s p s_at p_at = absurd (none-some s s_at)
  steps_more c (s' ∷ ss) [] s p s_at p_at = absurd (none-some p p_at)
  steps_more zero (s' ∷ ss) (p' ∷ ps) s p s_at p_at =
      let same : steps_from s' p'.process ≡ steps_from s p.process = λ i. steps_from (same_Some s' s s_at i) (same_Some p' p p_at i).process in
      omega (arith, same)
  steps_more (suc c) (s' ∷ ss) (p' ∷ ps) s p s_at p_at = omega (arith, steps_more c ss ps s p s_at p_at)

  -- what contracts of the theory see of them
  pub rewound_contents : (ss : List ℕ) (ps : List (Held M S)) → map (λ p. p.process) (at_marks ss ps) ≡ rewound ss (map (λ p. p.process) ps)
  rewound_contents [] ps = refl
  rewound_contents (s ∷ ss) [] = refl
  rewound_contents (s ∷ ss) (p ∷ ps) = ap (λ l. (with_cut s p).process ∷ l) (rewound_contents ss ps)

  -- what is so of each process and stays so where it is cut
  pub each_cut : (Is : ℕ → Held M S → Type 0) → ((c s : ℕ) (p : Held M S) → Is c p → Is c (with_cut s p)) → (b : ℕ) (ss : List ℕ) (ps : List (Held M S))
      → ((c : ℕ) (p : Held M S) → slice_get ps c ≡ Some p → Is (b + c) p) → (c : ℕ) (p : Held M S) → slice_get (at_marks ss ps) c ≡ Some p → Is (b + c) p
  each_cut Is stays b [] ps h c p at = h c p at
  each_cut Is stays b (s ∷ ss) [] h c p at = absurd (none-some p at)
  each_cut Is stays b (s ∷ ss) (q ∷ ps) h zero p at = subst (Is (b + 0)) (same_Some (with_cut s q) p at) (stays (b + 0) s q (h 0 q refl))
  each_cut Is stays b (s ∷ ss) (q ∷ ps) h (suc c) p at =
      let one : suc b + c ≡ b + suc c = omega arith in
      subst (λ k. Is k p) one (each_cut Is stays (suc b) ss ps (λ d r r_at. let k : b + suc d ≡ suc b + d = omega arith in subst (λ j. Is j r) k (h (suc d) r r_at)) c p at)

-- ---- columns

pub rises : (floor : ℕ) (rs : List Record) → Each (λ r. floor ≤ r.stamp) rs → IsRising rs → Rises floor rs
rises floor [] low h = tt
rises floor (r ∷ rs) low h = (low.0, rises (r.stamp + 1) rs (each_after r rs h.0) h.1)
  where
    each_after : (r : Record) (rs : List Record) → Each (λ y. r.stamp < y.stamp) rs → Each (λ y. r.stamp + 1 ≤ y.stamp) rs
    each_after r [] h = tt
    each_after r (y ∷ rs) h = (let l = h.0 in omega arith, each_after r rs h.1)

-- the last record of a rising column tells whether one reaches a stamp
module _ (s g : ℕ) where
  pub reaching : (rs : List Record) (last : Record) → slice_get rs (length rs - 1) ≡ Some last → Each (λ r. r.stamp < g) rs → s ≤ last.stamp → any_between s g rs ≡ true
  reaching rs last at low late = found s g (length rs - 1) rs last at late (each-get (λ (r : Record). r.stamp < g) rs (length rs - 1) last at low)

  pub not_reaching : (rs : List Record) (last : Record) → slice_get rs (length rs - 1) ≡ Some last → IsRising rs → last.stamp < s → any_between s g rs ≡ false
  not_reaching rs last at rising early =
      let some = slice_get_within rs (length rs - 1) last at in
      let none : any_between s g (drop (suc (length rs - 1)) rs) ≡ false = ap (any_between s g) (drop_all (suc (length rs - 1)) rs (omega arith)) in
      none_earlier s g 0 (length rs - 1) rs last (rises 0 rs (from_start rs) rising) at early none
    where
      from_start : (rs : List Record) → Each (λ r. 0 ≤ r.stamp) rs
      from_start [] = tt
      from_start (r ∷ rs) = (omega arith, from_start rs)

  pub reaches_by : (b : Bool) (rs : List Record) (last : Record) → b ≡ is_ge (nat_cmp last.stamp s) → slice_get rs (length rs - 1) ≡ Some last → IsRising rs → Each (λ r. r.stamp < g) rs → b ≡ any_between s g rs
  reaches_by true rs last is at rising low = sym (reaching rs last at low (ge last.stamp s is))
  reaches_by false rs last is at rising low = sym (not_reaching rs last at rising (not_ge last.stamp s is))
