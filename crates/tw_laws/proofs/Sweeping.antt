-- Posts and deliveries let the work fall.
use Rattle.std.proofs.Common.{◌≡◌, ℕ, ◌+◌, ◌*◌, ◌<◌, ◌≤◌, List, [], ◌∷◌, length, length-append, take, drop, take-append-drop, Some, refl, sym, ap, ◌∙◌, subst, arith, slice_get}
use Rattle.std.specs.Prelude.{◌==◌, remove}
use Rattle.std.specs.List.{AllByRecursion as Each}
use Rattle.std.proofs.lemmas.Bool.{cond_both}
use Rattle.std.proofs.lemmas.List.{length-map}
use Rattle.std.proofs.lemmas.Option.{slice_get_within}
use Rattle.tw_msgs.specs.Counting.{total}
use Rattle.tw_msgs.specs.Messages.{has}
use Rattle.tw_msgs.specs.declared.message.Item.{Item}
use Rattle.tw_msgs.specs.declared.message.Message.{Message}
use Rattle.tw_msgs.specs.declared.message.Sign.{Sign}
use Rattle.tw_msgs.specs.declared.message.Sign.TheVariants.{Positive, Anti}
use Rattle.tw_theory.specs.Bundles.{anti, antis, overdue}
use Rattle.tw_theory.specs.Contents.{Process, consumed_by, next, sent_by, unsent_by, Cancel, Aggressive, Lazy, settled_as, settle, back_to_first, steps_before, steps_from, cut, with_outgoing, Received, receive, receive_signed}
use Rattle.tw_theory.specs.Exchange.{work_of, work}
use Rattle.tw_theory.specs.Executive.{World, Post, Deliver, act, act_post, act_deliver, mail_of, posted}
use Rattle.tw_theory.specs.Network.{Network, Fits}
use Rattle.tw_theory.specs.Soundness.{IsSound}
use Rattle.tw_theory.proofs.Elements.{each_weaker, each-append, each-antis}
use Rattle.tw_theory.proofs.Owing.{length-undone, length-unsent, length-overdue, each-overdue}
use Rattle.tw_theory.proofs.TakingBack.{sent_by-append}
use Rattle.tw_theory.proofs.Totals.{total-set, total-remove}
use Rattle.tw_laws.specs.Sweeping.{WorkFalls}
use Rattle.tw_laws.proofs.Stepping.{get_box, total-posted}

pub one_each : {X : Type 0} (xs : List X) → total (λ x. 1) xs ≡ length xs
one_each [] = refl
one_each (x ∷ xs) = omega (arith, one_each xs)

pub one_each_all : (mail : List (List Item)) → total (total (λ i. 1)) mail ≡ total length mail
one_each_all [] = refl
one_each_all (box ∷ mail) = omega (arith, one_each box, one_each_all mail)

cut_work : {S : Type 0} (s : ℕ) (p : Process S) → work_of (cut s p) ≤ work_of p
unfolding back_to_first
cut_work s p =
    let xs = take (steps_before s p.history) p.history in
    let ys = drop (steps_before s p.history) p.history in
    let whole = ap (λ steps. length (sent_by steps)) (sym (take-append-drop (steps_before s p.history) p.history)) ∙ ap length (sent_by-append xs ys) ∙ length-append (sent_by xs) (sent_by ys) in
    let unsent = unsent_by ys in
    omega (arith, whole, length-undone p.cancel p.outgoing p.owed unsent, length-unsent ys)

received_work : {S : Type 0} (p : Process S) (sign : Sign) (m : Message) → work_of (receive_signed p sign m).1 ≤ work_of p
received_work {S} p Positive m =
    cond_both (has m p.waiting) _ _ (λ (r : Received × Process S). work_of r.1 ≤ work_of p) (λ e. omega arith)
    (λ e. cond_both (steps_from m.stamp p == 0) _ _ (λ (r : Received × Process S). work_of r.1 ≤ work_of p) (λ d. omega arith) (λ d. cut_work m.stamp p))
received_work {S} p Anti m =
    cond_both (has m p.pending) _ _ (λ (r : Received × Process S). work_of r.1 ≤ work_of p) (λ e. omega arith)
    (λ e. cond_both (has m (consumed_by p.history)) _ _ (λ (r : Received × Process S). work_of r.1 ≤ work_of p) (λ d. cut_work m.stamp p) (λ d. omega arith))

-- messages owed that become anti-messages fit, and weigh the same
pub settle_fits : {S : Type 0} (P : Message → Type 0) (k : Cancel) (p : Process S) → Each (λ i. P i.message) p.outgoing → Each P p.owed
    → Each (λ i. P i.message) (settled_as k p).outgoing
settle_fits P Aggressive p a b = a
settle_fits P Lazy p a b = each-append (λ i. P i.message) p.outgoing (antis (overdue (next p) p.owed)) a (each-antis P (overdue (next p) p.owed) (each-overdue P (next p) p.owed b).0)

settle_work : {S : Type 0} (k : Cancel) (p : Process S)
    → work_of (with_outgoing (settled_as k p) []) + 2 * length (settled_as k p).outgoing ≡ work_of p
settle_work Aggressive p = omega arith
settle_work Lazy p =
    let due = overdue (next p) p.owed in
    omega (arith, length-append p.outgoing (antis due), length-map due anti, length-overdue (next p) p.owed)

module _ {S : Type 0} (net : Network S) (until : ℕ) (w : World S) (h : IsSound net until w) where
  post_work : (c : ℕ) (p : Process S) → slice_get w.processes c ≡ Some p → work (act net until w (Post c)).1 + length (settle p).outgoing ≡ work w
  unfolding act
  post_work c p at =
      let sound = h.each c p at in
      let out = (settle p).outgoing in
      let near = each_weaker (λ i. Fits net i.message) (λ i. i.message.to < length w.mail) (λ i f. let l = f.to in let n = h.mail in omega arith) out (settle_fits (Fits net) p.cancel p sound.fit_outgoing sound.fit_owed) in
      ap (λ o. work (act_post w c o).1 + length out) at
      ∙ omega (
        arith,
        total-set work_of w.processes c p (with_outgoing (settle p) []) at,
        settle_work p.cancel p,
        total-posted (λ i. 1) w.mail out near,
        one_each out,
        one_each_all w.mail,
        one_each_all (posted w.mail out),
      )

  deliver_work : (c i : ℕ) (p : Process S) (x : Item) → slice_get w.processes c ≡ Some p → slice_get (mail_of w.mail c) i ≡ Some x
      → work (act net until w (Deliver c i)).1 < work w
  unfolding act
  deliver_work c i p x at is =
      let near : c < length w.mail = let l = slice_get_within w.processes c p at in omega (arith, h.mail, h.processes) in
      let box = mail_of w.mail c in
      subst (λ o. work (act_deliver w c i o (slice_get box i)).1 < work w) (sym at)
      (subst (λ y. work (act_deliver w c i (Some p) y).1 < work w) (sym is)
      (omega (
        arith,
        total-set work_of w.processes c p (receive p x).1 at,
        received_work p x.sign x.message,
        total-set length w.mail c box (remove box i) (get_box w.mail c near),
        total-remove (λ (j : Item). 1) box i x is,
        one_each box,
        one_each (remove box i),
      )))

pub work_falls : {S : Type 0} → WorkFalls S
work_falls = record { post = post_work; deliver = deliver_work }
