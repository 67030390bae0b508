-- What a rewind, or Back, that is not refused leaves.
use Rattle.std.proofs.Common.{◌≡◌, ℕ, zero, suc, ◌+◌, ◌≤◌, List, [], ◌∷◌, ◌++◌, length, Bool, true, false, cond, not, Option, Some, None, refl, sym, ap, ap₂, ◌∙◌, arith}
use Rattle.std.specs.Prelude.{slice_get, slice_set, ◌==◌, nat_lt, pos, ◌-ℤ◌, Ok, Err}
use Rattle.std.proofs.lemmas.Bool.{ltb-false}
use Rattle.std.proofs.lemmas.Int.{ints}
use Rattle.std.proofs.lemmas.Option.{same_Some, none-some}
use Rattle.tw_msgs.specs.Counting.{total, one_at, when_positive, when_anti, signed_count}
use Rattle.tw_msgs.specs.declared.message.Message.{Message}
use Rattle.tw_msgs.proofs.Totals.{total-append}
use Rattle.tw_theory.specs.Balance.{all_outgoing, all_mail, in_transit}
use Rattle.tw_theory.specs.Contents.{Process, Aggressive, sent_by, cut, back_to_first, steps_before, steps_from}
use Rattle.tw_theory.specs.Executive.{World, Answer, Undone, NoSuch, Committed, BeforeGvt, act, act_back, with_process}
use Rattle.tw_theory.specs.Marks.{any_committed, rewound, rewound_steps, rewind}
use Rattle.tw_theory.proofs.Balancing.{transit}
use Rattle.tw_theory.proofs.Cuts.{inputs_of_cut}
use Rattle.tw_theory.proofs.Histories.{kept_before}
use Rattle.tw_theory.proofs.Totals.{total-set}
use Rattle.tw_laws.specs.Rewinding.{taken_back, all_owed, AllCancel, IsCutAt, IsRewound, RewindingLaw, IsOneCut, BackCuts}
use Rattle.tw_laws.proofs.Inverse.{set_here, set_there}
use Rattle.tw_laws.proofs.Transit.{rewound_transit, dropped, cut_positive, cut_anti, cut_no_anti, cut_more_owed}

fewer : (plus minus less plus' minus' : ℕ) → plus' ≡ plus → minus' ≡ minus + less → pos plus' -ℤ pos minus' ≡ (pos plus -ℤ pos minus) -ℤ pos less
fewer plus minus less plus' minus' p q = omega (arith, ints, p, q)

module _ {S : Type 0} where
  cut_back : (s : ℕ) (p : Process S) → IsCutAt s p (cut s p)
  unfolding back_to_first
  cut_back s p = record { is = refl; keeps = kept_before s p.history; inputs_stay = inputs_of_cut (steps_before s p.history) p; line = refl }

  rewound_at : (ss : List ℕ) (ps : List (Process S)) (c s : ℕ) (p : Process S) → slice_get ss c ≡ Some s → slice_get ps c ≡ Some p
      → slice_get (rewound ss ps) c ≡ Some (cut s p)
  rewound_at [] ps c s p a b = absurd (none-some s a)
  rewound_at (x ∷ ss) [] c s p a b = absurd (none-some p b)
  rewound_at (x ∷ ss) (y ∷ ps) zero s p a b = ap₂ (λ (k : ℕ) (q : Process S). Some (cut k q)) (same_Some x s a) (same_Some y p b)
  rewound_at (x ∷ ss) (y ∷ ps) (suc c) s p a b = rewound_at ss ps c s p a b

  -- the world after a rewind to these marks that is not refused
  abbrev after : World S → List ℕ → World S
  after w ss = record w { processes = rewound ss w.processes }

  count_after : (w : World S) (ss : List ℕ) → AllCancel Aggressive w.processes → (m : Message)
      → signed_count m (in_transit (after w ss)) ≡ signed_count m (in_transit w) -ℤ pos (total (one_at m) (taken_back ss w.processes))
  count_after w ss k m =
      let plus = when_positive (one_at m) in
      let minus = when_anti (one_at m) in
      let out = all_outgoing w.processes in
      let out' = all_outgoing (rewound ss w.processes) in
      let mail = all_mail w.mail in
      fewer (total plus (in_transit w)) (total minus (in_transit w)) _ _ _
      (total-append plus out' mail ∙ ap (λ n. n + total plus mail) (rewound_transit.positive (one_at m) ss w.processes) ∙ sym (total-append plus out mail))
      (omega (arith, total-append minus out' mail, total-append minus out mail, (rewound_transit.aggressive (one_at m) ss w.processes k).0))

  rewound_is : (w : World S) (ss : List ℕ) → IsRewound w ss (after w ss)
  rewound_is w ss = record {
    process = λ c s p a b. (cut s p, rewound_at ss w.processes c s p a b, cut_back s p);
    mail = refl;
    columns = refl;
    gvt = refl;
    aggressive = λ k m. count_after w ss k m;
    lazy = λ k. (
      ap (λ out. out ++ all_mail w.mail) (rewound_transit.lazy (λ m. 0) ss w.processes k).0,
      λ m. (rewound_transit.lazy (one_at m) ss w.processes k).1,
    );
  }

  -- what a rewind gives, by its two tests
  abbrev outcome : World S → List ℕ → Bool → Bool → Answer × World S
  outcome w ss wrong committed = cond wrong (Err NoSuch, w) (cond committed (Err Committed, w) (Ok (Undone (rewound_steps ss w.processes)), after w ss))

  by_tests : (w : World S) (ss : List ℕ) (n : ℕ) (wrong committed : Bool) → (outcome w ss wrong committed).0 ≡ Ok (Undone n)
      → (n ≡ rewound_steps ss w.processes) × IsRewound w ss (outcome w ss wrong committed).1
  by_tests w ss n true committed e = absurd (cc e)
  by_tests w ss n false true e = absurd (cc e)
  by_tests w ss n false false e = (let f : rewound_steps ss w.processes ≡ n = cc e in sym f, rewound_is w ss)

  pub rewinding_law : RewindingLaw S
  unfolding rewind
  rewinding_law w ss n e = by_tests w ss n (not (length ss == length w.processes)) (any_committed w.gvt ss w.processes w.columns) e

  -- ---- Back

  set_outgoing : (ps : List (Process S)) (c : ℕ) (p q : Process S) → slice_get ps c ≡ Some p → q.outgoing ≡ p.outgoing
      → all_outgoing (slice_set ps c q) ≡ all_outgoing ps
  set_outgoing [] c p q at e = refl
  set_outgoing (x ∷ ps) zero p q at e = ap (λ out. out ++ all_outgoing ps) (e ∙ ap (λ (y : Process S). y.outgoing) (sym (same_Some x p at)))
  set_outgoing (x ∷ ps) (suc c) p q at e = ap (λ out. x.outgoing ++ out) (set_outgoing ps c p q at e)

  total-owed : (weight : Message → ℕ) (ps : List (Process S)) → total weight (all_owed ps) ≡ total (λ p. total weight p.owed) ps
  total-owed weight [] = refl
  total-owed weight (p ∷ ps) = omega (arith, total-append weight p.owed (all_owed ps), total-owed weight ps)

  backed_count : (w : World S) (c s : ℕ) (p : Process S) → slice_get w.processes c ≡ Some p → p.cancel ≡ Aggressive → (m : Message)
      → signed_count m (in_transit (with_process w c (cut s p))) ≡ signed_count m (in_transit w) -ℤ pos (total (one_at m) (sent_by (dropped s p)))
  backed_count w c s p at k m =
      let plus = when_positive (one_at m) in
      let minus = when_anti (one_at m) in
      let w' = with_process w c (cut s p) in
      fewer (total plus (in_transit w)) (total minus (in_transit w)) (total (one_at m) (sent_by (dropped s p))) (total plus (in_transit w')) (total minus (in_transit w'))
      (omega (arith, transit plus w, transit plus w', total-set (λ (x : Process S). total plus x.outgoing) w.processes c p (cut s p) at, cut_positive s p (one_at m)))
      (omega (arith, transit minus w, transit minus w', total-set (λ (x : Process S). total minus x.outgoing) w.processes c p (cut s p) at, cut_anti s p (one_at m) k))

  backed_is : (w : World S) (c s n : ℕ) (p : Process S) → slice_get w.processes c ≡ Some p → w.gvt ≤ s → steps_from s p ≡ n
      → IsOneCut w c s n (with_process w c (cut s p))
  backed_is w c s n p at l e = record {
    from = l;
    old = p;
    new = cut s p;
    old_at = at;
    new_at = set_here w.processes c p (cut s p) at;
    process = cut_back s p;
    number = sym e;
    others = λ d ne. set_there w.processes c d (cut s p) ne;
    mail = refl;
    columns = refl;
    gvt = refl;
    aggressive = λ k m. backed_count w c s p at k m;
    lazy = λ k. (
      ap (λ out. out ++ all_mail w.mail) (set_outgoing w.processes c p (cut s p) at (cut_no_anti s p k)),
      λ m.
          omega (
            arith,
            total-owed (one_at m) w.processes,
            total-owed (one_at m) (slice_set w.processes c (cut s p)),
            total-set (λ (x : Process S). total (one_at m) x.owed) w.processes c p (cut s p) at,
            cut_more_owed s p (one_at m) k,
          ),
    );
  }

  -- what Back gives, by its test
  abbrev back_gives : World S → ℕ → ℕ → Process S → Bool → Answer × World S
  back_gives w c s p early = cond early (Err BeforeGvt, w) (Ok (Undone (steps_from s p)), with_process w c (cut s p))

  backed : (w : World S) (c s n : ℕ) (o : Option (Process S)) → slice_get w.processes c ≡ o → (act_back w c s o).0 ≡ Ok (Undone n)
      → IsOneCut w c s n (act_back w c s o).1
  backed w c s n None at e = absurd (let bad : Err NoSuch ≡ Ok (Undone n) = e in cc)
  backed w c s n (Some p) at e = go (nat_lt s w.gvt) refl e
    where
      go : (b : Bool) → nat_lt s w.gvt ≡ b → (back_gives w c s p b).0 ≡ Ok (Undone n) → IsOneCut w c s n (back_gives w c s p b).1
      go true t k = absurd (let bad : Err BeforeGvt ≡ Ok (Undone n) = k in cc)
      go false t k = let same : Ok (Undone (steps_from s p)) ≡ Ok (Undone n) = k in backed_is w c s n p at (ltb-false s w.gvt t) (cc same)

  pub back_cuts : BackCuts S
  unfolding act
  back_cuts net until w c s n e = backed w c s n (slice_get w.processes c) refl e
