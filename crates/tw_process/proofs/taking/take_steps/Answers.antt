use Rattle.std.proofs.Common.{◌≡◌, ◌++◌, ◌∷◌, [], length, take, ap, sym, subst, ◌∙◌, arith, length-append}
use Rattle.std.specs.Prelude.{slice_get}
use Rattle.std.proofs.lemmas.List.{take_more}
use Rattle.std.proofs.lemmas.Option.{get_or_from_slice_get}
use Rattle.tw_step.specs.declared.step.Step.{Step as KeptStep}
use Rattle.tw_lists.specs.Lists.{with_room}
use Rattle.tw_network.specs.Contents.{network_of}
use Rattle.tw_theory.specs.Chains.{sent_at}
use Rattle.tw_process.specs.Installing.{AreNext, WhyNot, after_record, after_steps, sent_counts, IsNext}
use Rattle.tw_process.proofs.ChainSteps.{after-push, next-push, counts-push, why-room}
use Rattle.tw_process.proofs.taking.take_steps.Goals as goal

pub returns-in-Err-clause-stop : goal.returns-in-Err-clause-stop
returns-in-Err-clause-stop g c = λ e at.
    let net = network_of g.M.Atomic.meaning c.args.place.now.network.now in
    let way = c.args.place.now.cancel in
    let k = c.args.place.now.component in
    let i = c.loop-step.step-index in
    let count : length c.take_step.new.counts.items ≡ i = ap length c.in-Err.ensures.taken.none ∙ c.loop-step.invariant.counted in
    let is : c.step-item.result ≡ e = c.step-item.is ∙ get_or_from_slice_get c.args.steps.now i e c.step-item.result (ap (slice_get c.args.steps.now) (sym count) ∙ at) in
    let new = c.take_step.new.lists in
    subst (λ l. WhyNot net k way e l c.in-Err.stop) (sym c.in-Err.ensures.taken.stays)
    (why-room net k way e c.loop-step.lists new.room new.spare c.in-Err.stop (subst (λ (x : KeptStep _ _). WhyNot net k way x c.loop-step.lists c.in-Err.stop) is c.in-Err.ensures.taken.stop))

pub loop-step-preserved : goal.loop-step-preserved
loop-step-preserved g c =
    let net = network_of g.M.Atomic.meaning c.args.place.now.network.now in
    let way = c.args.place.now.cancel in
    let k = c.args.place.now.component in
    let i = c.loop-step.step-index in
    let steps = c.args.steps.now in
    let e = c.step-item.result in
    let inv = c.loop-step.invariant in
    let old = c.args.lists.now in
    let new = c.take_step.new.lists in
    let done = c.in_default.ensures in
    let more = take_more steps i e c.loop-step-test.true ∙ ap (λ (x : KeptStep _ _). take i steps ++ x ∷ []) (sym c.step-item.is) in
    let before = after_steps net k way (take i steps) old in
    record {
      counted = omega (arith, ap length done.taken.counted, length-append c.loop-step.taken.counts.items (length (sent_at net k e.done) ∷ []), inv.counted);
      counts = done.taken.counted ∙ ap (λ l. l ++ length (sent_at net k e.done) ∷ []) inv.counts ∙ sym (counts-push net k (take i steps) e) ∙ ap (sent_counts net k) (sym more);
      lists = done.taken.taken ∙ ap (λ l. with_room new.room new.spare (after_record net k way e.done l)) inv.lists ∙ sym (ap (with_room new.room new.spare) (after-push net k way (take i steps) e old)) ∙ ap (λ l. with_room new.room new.spare (after_steps net k way l old)) (sym more);
      next = subst (λ l. AreNext net k way l old) (sym more) (next-push net k way (take i steps) e old inv.next (subst (λ l. IsNext e l) inv.lists done.taken.next));
      history = done.room.same ∙ inv.history;
      room = omega (arith, done.room.room, ap length inv.counts, inv.counted, c.loop-step.taken.counts.ok.0);
      going = inv.going;
    }

pub returns-in-Err-clause-within : goal.returns-in-Err-clause-within
returns-in-Err-clause-within g c = omega (arith, ap length c.in-Err.ensures.taken.none, c.loop-step.invariant.counted, c.loop-step-test.true)

pub returns-in-Err-clause-short : goal.returns-in-Err-clause-short
returns-in-Err-clause-short g c = omega (arith, ap length c.in-Err.ensures.taken.none, c.loop-step.invariant.counted, c.loop-step-test.true)

pub returns-in-Err-clause-room : goal.returns-in-Err-clause-room
returns-in-Err-clause-room g c =
    let counts = c.loop-step.taken.counts in
    let kept = c.in-Err.ensures.room.kept (omega (arith, c.loop-step.invariant.room, c.loop-step.invariant.counted, counts.ok.0)) in
    omega (arith, kept, ap length c.in-Err.ensures.taken.none, counts.ok.0)

pub returns-in-Err-clause-history : goal.returns-in-Err-clause-history
returns-in-Err-clause-history g c = c.in-Err.ensures.room.same ∙ c.loop-step.invariant.history
