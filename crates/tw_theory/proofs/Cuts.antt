-- How taking back composes.
use Rattle.std.proofs.Common.{◌≡◌, ℕ, zero, suc, ◌<◌, ◌≤◌, min, List, [], ◌∷◌, ◌++◌, length, take, drop, Bool, true, false, cond, refl, sym, ap, ◌∙◌, arith, append_assoc, append-nil}
use Rattle.std.specs.Prelude.{nat_lt}
use Rattle.std.proofs.lemmas.Bool.{lt-ltb, le-ltb, ltb-true, ltb-false, cond-true, cond-false}
use Rattle.std.proofs.lemmas.List.{take-take, take_all, drop_all}
use Rattle.tw_msgs.specs.declared.message.Item.{Item}
use Rattle.tw_msgs.specs.declared.message.Message.{Message}
use Rattle.tw_theory.specs.Contents.{Process, Cancel, Aggressive, Lazy, before_all, consumed_by, unsent_by, outgoing_undone, owed_undone, back_to_first, steps_before, cut, inputs}
use Rattle.tw_theory.specs.Laws.{CutLaw}
use Rattle.tw_theory.specs.LocalRun.{Step}
use Rattle.tw_theory.specs.Soundness.{AllBefore}
use Rattle.tw_theory.specs.Transitions.{Moment}
use Rattle.tw_theory.proofs.Owing.{undone-append, unsent-append}
use Rattle.tw_theory.proofs.TakingBack.{consumed_by-append}

-- nothing unsent adds nothing
pub nothing_outgoing : (k : Cancel) (out : List Item) → outgoing_undone k out [] ≡ out
nothing_outgoing Aggressive out = append-nil out
nothing_outgoing Lazy out = refl

pub nothing_owed : (k : Cancel) (owed : List Message) → owed_undone k owed [] ≡ owed
nothing_owed Aggressive owed = refl
nothing_owed Lazy owed = append-nil owed

module _ {S : Type 0} where
  before_all-append : (xs ys : List (Step S)) (now : Moment S) → before_all (xs ++ ys) now ≡ before_all xs (before_all ys now)
  before_all-append [] ys now = refl
  before_all-append (x ∷ xs) ys now = refl

  drop_parts : (k n : ℕ) (steps : List (Step S)) → k ≤ n → drop k (take n steps) ++ drop n steps ≡ drop k steps
  drop_parts zero zero steps l = refl
  drop_parts zero (suc n) [] l = refl
  drop_parts zero (suc n) (x ∷ steps) l = ap (λ xs. x ∷ xs) (drop_parts zero n steps (omega arith))
  drop_parts (suc k) zero steps l = absurd (omega arith)
  drop_parts (suc k) (suc n) [] l = refl
  drop_parts (suc k) (suc n) (x ∷ steps) l = drop_parts k n steps (omega arith)

  pub back_twice : (k n : ℕ) (p : Process S) → k ≤ n → back_to_first k (back_to_first n p) ≡ back_to_first k p
  unfolding back_to_first
  back_twice k n p l =
      let xs = drop k (take n p.history) in
      let ys = drop n p.history in
      let whole = drop_parts k n p.history l in
      let now = sym (before_all-append xs ys p.now) ∙ ap (λ steps. before_all steps p.now) whole in
      let pending = sym (append_assoc (consumed_by xs) (consumed_by ys) p.pending) ∙ ap (λ ms. ms ++ p.pending) (sym (consumed_by-append xs ys)) ∙ ap (λ steps. consumed_by steps ++ p.pending) whole in
      let unsent = sym (unsent-append xs ys) ∙ ap (λ steps. unsent_by steps) whole in
      let parts = undone-append p.cancel p.outgoing p.owed (unsent_by ys) (unsent_by xs) in
      let outgoing = sym parts.0 ∙ ap (outgoing_undone p.cancel p.outgoing) unsent in
      let owed = sym parts.1 ∙ ap (owed_undone p.cancel p.owed) unsent in
      let history = take-take k n p.history l in
      λ i. record { now = now i; pending = pending i; history = history i; waiting = p.waiting; outgoing = outgoing i; owed = owed i; line = p.line; cancel = p.cancel }

  -- ---- which steps are kept

  -- where all stand before s
  pub steps_before-all : (s : ℕ) (steps : List (Step S)) → AllBefore s steps → steps_before s steps ≡ length steps
  steps_before-all s [] h = refl
  steps_before-all s (x ∷ steps) h = cond-true (nat_lt x.entry.stamp s) _ _ (lt-ltb x.entry.stamp s h.0) ∙ ap suc (steps_before-all s steps h.1)

  pub steps_before-take : (s n : ℕ) (steps : List (Step S)) → steps_before s (take n steps) ≡ min (steps_before s steps) n
  steps_before-take s zero steps = omega arith
  steps_before-take s (suc n) [] = omega arith
  steps_before-take s (suc n) (x ∷ steps) = go (nat_lt x.entry.stamp s) (steps_before-take s n steps)
    where
      go : (b : Bool) → steps_before s (take n steps) ≡ min (steps_before s steps) n
          → cond b (suc (steps_before s (take n steps))) 0 ≡ min (cond b (suc (steps_before s steps)) 0) (suc n)
      go true ih = omega (arith, ih)
      go false ih = omega arith

  steps_before-min : (s t : ℕ) (steps : List (Step S)) → steps_before (min s t) steps ≡ min (steps_before s steps) (steps_before t steps)
  steps_before-min s t [] = refl
  steps_before-min s t (x ∷ steps) = go (nat_lt x.entry.stamp s) (nat_lt x.entry.stamp t) refl refl (steps_before-min s t steps)
    where
      go : (a b : Bool) → nat_lt x.entry.stamp s ≡ a → nat_lt x.entry.stamp t ≡ b
          → steps_before (min s t) steps ≡ min (steps_before s steps) (steps_before t steps)
          → steps_before (min s t) (x ∷ steps) ≡ min (cond a (suc (steps_before s steps)) 0) (cond b (suc (steps_before t steps)) 0)
      go true true p q ih =
          let both : x.entry.stamp < min s t = omega (arith, ltb-true x.entry.stamp s p, ltb-true x.entry.stamp t q) in
          cond-true (nat_lt x.entry.stamp (min s t)) _ _ (lt-ltb x.entry.stamp (min s t) both) ∙ omega (arith, ih)
      go true false p q ih =
          let late : min s t ≤ x.entry.stamp = omega (arith, ltb-false x.entry.stamp t q) in
          cond-false (nat_lt x.entry.stamp (min s t)) _ _ (le-ltb x.entry.stamp (min s t) late) ∙ omega arith
      go false b p q ih =
          let late : min s t ≤ x.entry.stamp = omega (arith, ltb-false x.entry.stamp s p) in
          cond-false (nat_lt x.entry.stamp (min s t)) _ _ (le-ltb x.entry.stamp (min s t) late) ∙ none b
        where
          none : (b : Bool) → 0 ≡ min 0 (cond b (suc (steps_before t steps)) 0)
          none b = omega arith

  -- ---- cuts

  -- nothing is taken back
  pub nothing_back : (p : Process S) → back_to_first (length p.history) p ≡ p
  unfolding back_to_first
  nothing_back p =
      let rest = drop_all (length p.history) p.history (omega arith) in
      let history = take_all (length p.history) p.history (omega arith) in
      let outgoing = ap (λ l. outgoing_undone p.cancel p.outgoing (unsent_by l)) rest ∙ nothing_outgoing p.cancel p.outgoing in
      let owed = ap (λ l. owed_undone p.cancel p.owed (unsent_by l)) rest ∙ nothing_owed p.cancel p.owed in
      λ i. record { now = before_all (rest i) p.now; pending = consumed_by (rest i) ++ p.pending; history = history i; waiting = p.waiting; outgoing = outgoing i; owed = owed i; line = p.line; cancel = p.cancel }

  history_of_cut : (t : ℕ) (p : Process S) → (cut t p).history ≡ take (steps_before t p.history) p.history
  unfolding back_to_first
  history_of_cut t p = refl

  cut_twice : (s t : ℕ) (p : Process S) → cut s (cut t p) ≡ cut (min s t) p
  cut_twice s t p =
      let n = steps_before t p.history in
      let k = steps_before-min s t p.history in
      let kept = ap (steps_before s) (history_of_cut t p) ∙ steps_before-take s n p.history in
      ap (λ k. back_to_first k (cut t p)) kept ∙ back_twice (min (steps_before s p.history) n) n p (omega arith) ∙ ap (λ k. back_to_first k p) (sym k)

  pub inputs_of_cut : (n : ℕ) (p : Process S) → inputs (back_to_first n p) ≡ inputs p
  unfolding back_to_first
  inputs_of_cut n p =
      let xs = take n p.history in
      let ys = drop n p.history in
      sym (append_assoc (consumed_by xs) (consumed_by ys) p.pending) ∙ ap (λ ms. ms ++ p.pending) (sym (consumed_by-append xs ys) ∙ ap (λ steps. consumed_by steps) (drop_parts zero n p.history (omega arith)))

  pub cut_law : CutLaw S
  cut_law = record {
    after_all = λ s p h. ap (λ n. back_to_first n p) (steps_before-all s p.history h) ∙ nothing_back p;
    twice = cut_twice;
    in_two_goes = back_twice;
    inputs_stay = λ s p. inputs_of_cut (steps_before s p.history) p;
  }
