use Rattle.std.proofs.Common.{◌≡◌, ◌<◌, ◌+◌, ℕ, [], suc, length, map, ap, subst, sym, ◌∙◌, inl, inr, arith}
use Rattle.std.proofs.lemmas.Bool.{cases_eq}
use Rattle.std.proofs.lemmas.Option.{slice_get-get_or}
use Rattle.std.proofs.lemmas.Result.{err_from_is_err_and}
use Rattle.tw_theory.specs.Exchange.{deliveries}
use Rattle.tw_theory.specs.Executive.{mail_of}
use Rattle.tw_exchange.proofs.IdleLemmas.{less_but}
use Rattle.tw_exchange.proofs.Marking.{fewer, standing}
use Rattle.tw_exchange.proofs.PassByPass.{mail_count}
use Rattle.tw_exchange.proofs.Skipping.{all_boxes, box_there, boxes_before, empty_boxes, no_boxes, same_box}
use Rattle.tw_exchange.proofs.UnderWay.{cut_rest, finished, within}
use Rattle.tw_exchange.specs.Agenda.{AllLate, IsLeast}
use Rattle.tw_exchange.specs.Queues.{box_mark}
use Rattle.tw_exchange.specs.Sweeping.{IsUnderWay, deliveries_from}
use Rattle.tw_exchange.proofs.sweeping.deliver_all.Given.{Over}
use Rattle.tw_exchange.proofs.sweeping.deliver_all.Goals.{In-Some}
use Rattle.tw_exchange.proofs.sweeping.deliver_all.Goals as goal

-- the mailbox that comes next
module _ (g : Over) (c : In-Some g) where
  next_box : IsLeast (map box_mark c.loop-receiver.executive.world.mail) c.in-Some.field-0-0 c.in-Some.receiver
  next_box = subst (λ l. IsLeast l c.in-Some.field-0-0 c.in-Some.receiver) c.loop-receiver.invariant.kept.marks.delivering c.in-Some.ensures.least

  none_before : (d : ℕ) → d < c.in-Some.receiver → mail_of c.loop-receiver.executive.world.mail d ≡ []
  none_before = boxes_before c.loop-receiver.executive.world.mail c.in-Some.field-0-0 c.in-Some.receiver next_box

  -- up to it nothing is left
  left : IsUnderWay g.M.Atomic.meaning (deliveries 0 c.args.executive.now.world.mail) (deliveries_from c.in-Some.receiver c.loop-receiver.executive) c.args.executive.now c.loop-receiver.executive
  left =
      subst (λ l. IsUnderWay g.M.Atomic.meaning (deliveries 0 c.args.executive.now.world.mail) l c.args.executive.now c.loop-receiver.executive)
      (empty_boxes c.in-Some.receiver c.loop-receiver.executive.world.mail none_before) c.loop-receiver.invariant.under

pub deliver_box-requires-clause-near : goal.deliver_box-requires-clause-near
deliver_box-requires-clause-near g c =
    let here = (goal.at.deliver_box-requires-clause-near g c).In-Some in
    subst (λ n. c.in-Some.receiver < n) (mail_count g.M.Atomic.meaning c.loop-receiver.executive c.loop-receiver.invariant.sound)
    (box_there c.loop-receiver.executive.world.mail c.in-Some.field-0-0 c.in-Some.receiver (next_box g here))

pub returns-in_err-deliver_box-clause-cut_short : goal.returns-in_err-deliver_box-clause-cut_short
returns-in_err-deliver_box-clause-cut_short g c =
    let here = (goal.at.returns-in_err-deliver_box-clause-cut_short g c).In-Some in
    let p = err_from_is_err_and c.from_residual.result c.from_residual.ensures.1 in
    rw (p.1, p.2) (cut_rest g.M.Atomic.meaning (deliveries_from c.in-Some.receiver c.loop-receiver.executive) c.in_err-deliver_box.field-0.0 (left g here) c.in_err-deliver_box.ensures.cut_short)

pub loop-receiver-smaller : goal.loop-receiver-smaller
loop-receiver-smaller g c =
    let here = (goal.at.loop-receiver-smaller g c).In-Some in
    let q = c.in-Some.receiver in
    let mail = c.loop-receiver.executive.world.mail in
    let new = c.deliver_box.new.executive.world.mail in
    let same = c.deliver_box.ensures.elsewhere.mail in
    let next = next_box g here in
    let near : q < length new = omega (arith, box_there mail c.in-Some.field-0-0 q next, same.count) in
    let less = fewer box_mark mail new q c.in-Some.field-0-0 (mail_of new q) same next.at (slice_get-get_or new q [] near) (ap box_mark c.in_ok-deliver_box.ensures.emptied) in
    omega (arith, less, ap standing c.deliver_box.ensures.kept.marks.delivering, ap standing c.loop-receiver.invariant.kept.marks.delivering)

pub loop-receiver-preserved : goal.loop-receiver-preserved
loop-receiver-preserved g c =
    let here = (goal.at.loop-receiver-preserved g c).In-Some in
    let m = g.M.Atomic.meaning in
    let e = c.args.executive.now in
    let q = c.in-Some.receiver in
    let mail = c.loop-receiver.executive.world.mail in
    let new = c.deliver_box.new.executive in
    let same = c.deliver_box.ensures.elsewhere.mail in
    let next : suc q ≡ q + 1 = omega arith in
    let none : (d : ℕ) → d < suc q → mail_of new.world.mail d ≡ [] = λ d before. elim (cases_eq d q) [
      | inl is ↦ ap (mail_of new.world.mail) is ∙ c.in_ok-deliver_box.ensures.emptied
      | inr apart ↦ same_box q d mail new.world.mail apart same ∙ none_before g here d (less_but d q (omega (arith, before, next)) apart)
    ] in
    record {
      sound = c.facts-in-Some.ensures;
      kept = c.deliver_box.ensures.kept;
      under = subst (λ l. IsUnderWay m (deliveries 0 e.world.mail) l e new) (sym (empty_boxes (suc q) new.world.mail none)) (within m (left g here) c.in_ok-deliver_box.ensures.done);
      busy = c.deliver_box.ensures.busy ∙ c.loop-receiver.invariant.busy;
    }

pub returns-clause-done : goal.returns-clause-done
returns-clause-done g c =
    let m = g.M.Atomic.meaning in
    let e = c.args.executive.now in
    let now = c.loop-receiver.executive in
    let late = subst AllLate c.loop-receiver.invariant.kept.marks.delivering (c.first.ensures.none c.in_default.is) in
    finished m (subst (λ l. IsUnderWay m (deliveries 0 e.world.mail) l e now) (no_boxes 0 now.world.mail (all_boxes now.world.mail late)) c.loop-receiver.invariant.under)
