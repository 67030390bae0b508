-- What comes of an item, case by case.
use Rattle.std.proofs.Common.{◌≡◌, ◌≢◌, ◌↔◌, ℕ, ◌==◌, ◌++◌, ◌∷◌, [], Bool, true, false, length, refl, ap, sym, subst, ◌∙◌, arith, Result, Ok, Err}
use Rattle.std.specs.Prelude.{cond}
use Rattle.std.specs.Result.{IsErr, IsErrAnd}
use Rattle.std.proofs.lemmas.Bool.{cond-true, cond-false, eq-eqb, ne_eqb}
use Rattle.tw_msgs.specs.Messages.{has, without}
use Rattle.tw_msgs.specs.declared.message.Message.{Message}
use Rattle.tw_theory.specs.Contents.{Process, Received, Placed, Straggler, Annihilated, Waiting, placed, removed, with_waiting, with_pending, receive_message, receive_anti, steps_from, steps_before, cut, back_to_first, consumed_by}
use Rattle.tw_theory.specs.Memory.{need_of_received}
use Rattle.tw_process.specs.Process.{Held, IsFullBy, with_cleared, with_removed}
use Rattle.tw_msgs.proofs.MessageLists.{without_absent}
use Rattle.tw_theory.proofs.Cuts.{nothing_back}
use Rattle.tw_theory.proofs.Histories.{before_within}

module _ {S : Type 0} (p : Process S) (m : Message) where
  pub message_waits : has m p.waiting ≡ true → receive_message p m ≡ (Annihilated 0, with_waiting p (without m p.waiting))
  message_waits is = cond-true (has m p.waiting) _ _ is

  pub message_straggles : has m p.waiting ≡ false → steps_from m.stamp p ≢ 0 → receive_message p m ≡ (Straggler (steps_from m.stamp p), placed (cut m.stamp p) m)
  message_straggles is some = cond-false (has m p.waiting) _ _ is ∙ cond-false (steps_from m.stamp p == 0) _ _ (ne_eqb (steps_from m.stamp p) 0 some)

  pub message_placed : has m p.waiting ≡ false → steps_from m.stamp p ≡ 0 → receive_message p m ≡ (Placed, placed p m)
  message_placed is none = cond-false (has m p.waiting) _ _ is ∙ cond-true (steps_from m.stamp p == 0) _ _ (eq-eqb (steps_from m.stamp p) 0 none)

  pub anti_pending : has m p.pending ≡ true → receive_anti p m ≡ (Annihilated 0, removed p m)
  anti_pending is = cond-true (has m p.pending) _ _ is

  pub anti_consumed : has m p.pending ≡ false → has m (consumed_by p.history) ≡ true → receive_anti p m ≡ (Annihilated (steps_from m.stamp p), removed (cut m.stamp p) m)
  anti_consumed is there = cond-false (has m p.pending) _ _ is ∙ cond-true (has m (consumed_by p.history)) _ _ there

  pub anti_waits : has m p.pending ≡ false → has m (consumed_by p.history) ≡ false → receive_anti p m ≡ (Waiting, with_waiting p (p.waiting ++ m ∷ []))
  anti_waits is none = cond-false (has m p.pending) _ _ is ∙ cond-false (has m (consumed_by p.history)) _ _ none

  -- what is pending, or waits, takes a node
  pub message_needs : has m p.waiting ≡ false → need_of_received (receive_message p m).0 ≡ 1
  message_needs is = ap (λ (r : Received × Process S). need_of_received r.0) (cond-false (has m p.waiting) _ _ is) ∙ either (steps_from m.stamp p == 0)
    where
      either : (b : Bool) → need_of_received (cond {A = Received × Process S} b (Placed, placed p m) (Straggler (steps_from m.stamp p), placed (cut m.stamp p) m)).0 ≡ 1
      either true = refl
      either false = refl

  pub anti_needs : has m p.pending ≡ false → has m (consumed_by p.history) ≡ false → need_of_received (receive_anti p m).0 ≡ 1
  anti_needs is none = ap (λ (r : Received × Process S). need_of_received r.0) (anti_waits is none)

error_is : {T E : Type 0} (s : Result T E) (e : E) → IsErr s → IsErrAnd s (λ y. y ≡ e) → s ≡ Err e
error_is (Ok x) e is same = absurd (cc is)
error_is (Err y) e is same = ap Err same

-- an item that takes n nodes, where the room for one was asked of q with the answer r
module _ {S E A : Type 0} (p q : Process S) (n : ℕ) (full : E) (r : Result A E) (same : q ≡ p) (one : n ≡ 1) (limit : IsFullBy 1 q ↔ (r ≡ Err full)) where
  asked : IsFullBy n p ↔ (r ≡ Err full)
  asked = subst (λ k. IsFullBy k p ↔ (r ≡ Err full)) (sym one) (subst (λ x. IsFullBy 1 x ↔ (r ≡ Err full)) same limit)

  pub limit_refused : {B : Type 0} (e : E) (s : Result B E) → r ≡ Err e → IsErr s × IsErrAnd s (λ y. y ≡ e) → IsFullBy n p ↔ (s ≡ Err full)
  limit_refused e s was given =
      let is = error_is s e given.0 given.1 in
      let same_error : (r ≡ Err full) ↔ (s ≡ Err full) = (λ h. cc (h, was, is), λ h. cc (h, was, is)) in
      (λ h. same_error.0 (asked.0 h), λ h. asked.1 (same_error.1 h))

  pub limit_given : {B : Type 0} (x : A) (y : B) → r ≡ Ok x → IsFullBy n p ↔ (Ok y ≡ Err full)
  limit_given x y was = (λ h. let refused = asked.0 h in absurd (cc (refused, was)), λ h. absurd (cc h))

-- nothing to take back
pub cut_none : {S : Type 0} (s : ℕ) (p : Process S) → steps_from s p ≡ 0 → cut s p ≡ p
cut_none s p none =
    let w = before_within s p.history in
    let all : steps_before s p.history ≡ length p.history = omega (arith, none, w) in
    ap (λ n. back_to_first n p) all ∙ nothing_back p

pub cleared_same : {M S : Type 0} (p : Held M S) (m : Message) → has m p.process.waiting ≡ false → with_cleared m p ≡ p
cleared_same p m none = ap (λ l. record p { process = with_waiting p.process l }) (without_absent m p.process.waiting none)

pub removed_same : {M S : Type 0} (p : Held M S) (m : Message) → has m p.process.pending ≡ false → with_removed m p ≡ p
removed_same p m none = ap (λ l. record p { process = with_pending p.process l }) (without_absent m p.process.pending none)
