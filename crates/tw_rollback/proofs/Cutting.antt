-- Steps taken back one by one, until none is left at or after a stamp.
use Rattle.std.proofs.Common.{◌≡◌, ℕ, suc, ◌+◌, ◌-◌, ◌<◌, ◌≤◌, List, [], ◌∷◌, length, take, Bool, true, false, nat_lt, cond, Some, None, refl, ap, ◌∙◌, arith}
use Rattle.std.proofs.lemmas.Bool.{cond-false, le-ltb}
use Rattle.std.proofs.lemmas.List.{length-take-le}
use Rattle.tw_process.specs.Process.{last_stamp_of}
use Rattle.tw_theory.specs.Contents.{Process, steps_before, steps_from, back_to_first, undo_last, cut}
use Rattle.tw_theory.specs.LocalRun.{Step}
use Rattle.tw_theory.specs.Soundness.{AllBefore}
use Rattle.tw_theory.proofs.Cuts.{steps_before-all, steps_before-take, back_twice, nothing_back}

pub before_at_most : {S : Type 0} (s t : ℕ) (steps : List (Step S)) → last_stamp_of steps ≡ Some t → s ≤ t → steps_before s steps ≤ length steps - 1
before_at_most s t [] is le = absurd (cc)
before_at_most s t (x ∷ []) is le =
    let same : x.entry.stamp ≡ t = cc in
    let none : steps_before s (x ∷ []) ≡ 0 = cond-false (nat_lt x.entry.stamp s) _ _ (le-ltb x.entry.stamp s (omega (arith, same, le))) in
    omega (arith, none)
before_at_most s t (x ∷ y ∷ steps) is le =
    let rest = before_at_most s t (y ∷ steps) is le in
    go (nat_lt x.entry.stamp s) rest
  where
    go : (b : Bool) → steps_before s (y ∷ steps) ≤ length (y ∷ steps) - 1 → cond b (suc (steps_before s (y ∷ steps))) 0 ≤ length (x ∷ y ∷ steps) - 1
    go true rest = omega (arith, rest)
    go false rest = omega arith

pub some_history : {S : Type 0} (t : ℕ) (steps : List (Step S)) → last_stamp_of steps ≡ Some t → 0 < length steps
some_history t [] is = absurd (cc)
some_history t (x ∷ steps) is = omega arith

pub no_history : {S : Type 0} (steps : List (Step S)) → last_stamp_of steps ≡ None → steps ≡ []
no_history [] is = refl
no_history (x ∷ []) is = absurd (cc)
no_history (x ∷ y ∷ steps) is = let rest = ap length (no_history (y ∷ steps) is) in absurd (omega (arith, rest))

pub before_later : {S : Type 0} (s t : ℕ) (steps : List (Step S)) → s ≤ t → AllBefore s steps → AllBefore t steps
before_later s t [] le h = tt
before_later s t (x ∷ steps) le h = (omega (arith, le, h.0), before_later s t steps le h.1)

-- one step at or after s less: the cut is the same
pub record OneBack {S : Type 0} (s : ℕ) (p : Process S) : Type 0 where
  pub same : cut s (undo_last p) ≡ cut s p
  pub shorter : length (undo_last p).history + 1 ≡ length p.history
  pub fewer : steps_from s (undo_last p) + 1 ≡ steps_from s p

pub one_back : {S : Type 0} (s t : ℕ) (p : Process S) → last_stamp_of p.history ≡ Some t → s ≤ t → OneBack s p
unfolding back_to_first
one_back s t p last le =
    let n = length p.history - 1 in
    let most = before_at_most s t p.history last le in
    let some = some_history t p.history last in
    let kept : steps_before s (take n p.history) ≡ steps_before s p.history = steps_before-take s n p.history ∙ omega (arith, most) in
    let long : length (take n p.history) ≡ n = length-take-le n p.history (omega arith) in
    record {
      same = ap (λ k. back_to_first k (undo_last p)) kept ∙ back_twice (steps_before s p.history) n p most;
      shorter = omega (arith, long, some);
      fewer = omega (arith, long, kept, most, some);
    }

pub cut_done : {S : Type 0} (s : ℕ) (p : Process S) → AllBefore s p.history → (cut s p ≡ p) × (steps_from s p ≡ 0)
cut_done s p h = let all = steps_before-all s p.history h in (ap (λ n. back_to_first n p) all ∙ nothing_back p, omega (arith, all))
