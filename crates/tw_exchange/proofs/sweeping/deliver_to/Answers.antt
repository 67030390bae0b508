use Rattle.std.proofs.Common.{◌≡◌, ◌<◌, length, ap, subst, sym, ◌∙◌, refl, arith}
use Rattle.std.proofs.lemmas.List.{nil_from_length}
use Rattle.std.proofs.lemmas.Result.{err_from_is_err_and}
use Rattle.tw_theory.specs.Exchange.{work}
use Rattle.tw_theory.specs.Executive.{Deliver, mail_of}
use Rattle.tw_exchange.proofs.IdleLemmas.{none_of, some_of}
use Rattle.tw_exchange.proofs.PassByPass.{delivery, no_delivery}
use Rattle.tw_network.specs.Contents.{network_of}
use Rattle.tw_exchange.proofs.Skipping.{all_same, deliver_elsewhere, then_elsewhere}
use Rattle.tw_exchange.proofs.UnderWay.{begun, cut, same_network, stepped}
use Rattle.tw_exchange.specs.Queues.{IsElsewhereSame}
use Rattle.tw_exec.specs.Running.{after}
use Rattle.tw_exchange.specs.Sweeping.{IsUnderWay, deliveries_from}
use Rattle.tw_exchange.proofs.sweeping.deliver_to.Goals as goal

pub returns-in_err-done-clause-cut_short : goal.returns-in_err-done-clause-cut_short
returns-in_err-done-clause-cut_short g c =
    let m = g.M.Atomic.meaning in
    let e = c.args.executive.now in
    let q = c.args.receiver in
    let now = c.loop-executive.executive in
    let near : q < length now.network.models = omega (arith, c.requires, ap (λ n. length n.models) (same_network m c.loop-executive.invariant.under)) in
    let some : 0 < length (mail_of now.world.mail q) = omega (arith, some_of (length c.mail.result.now) c.loop-executive-test.ensures, ap length c.mail.ensures) in
    let d = delivery m now c.loop-executive.invariant.sound q near some in
    let u = subst (λ l. IsUnderWay m (deliveries_from q e) l e now) d.is c.loop-executive.invariant.under in
    let p = err_from_is_err_and c.from_residual.result c.from_residual.ensures.1 in
    rw (p.1, p.2) (cut m (Deliver q 0) (deliveries_from q (after m (Deliver q 0) now)) c.in_err-done.field-0.0 tt u c.in_err-done.ensures.stays c.in_err-done.ensures.wanting)

pub loop-executive-smaller : goal.loop-executive-smaller
loop-executive-smaller g c =
    let m = g.M.Atomic.meaning in
    let q = c.args.receiver in
    let now = c.loop-executive.executive in
    let near : q < length now.network.models = omega (arith, c.requires, ap (λ n. length n.models) (same_network m c.loop-executive.invariant.under)) in
    let some : 0 < length (mail_of now.world.mail q) = omega (arith, some_of (length c.mail.result.now) c.loop-executive-test.ensures, ap length c.mail.ensures) in
    let d = delivery m now c.loop-executive.invariant.sound q near some in
    subst (λ x. work x.world < work now.world) (sym c.in_ok-done.ensures.done) d.falls

pub loop-executive-preserved : goal.loop-executive-preserved
loop-executive-preserved g c =
    let m = g.M.Atomic.meaning in
    let e = c.args.executive.now in
    let q = c.args.receiver in
    let now = c.loop-executive.executive in
    let near : q < length now.network.models = omega (arith, c.requires, ap (λ n. length n.models) (same_network m c.loop-executive.invariant.under)) in
    let some : 0 < length (mail_of now.world.mail q) = omega (arith, some_of (length c.mail.result.now) c.loop-executive-test.ensures, ap length c.mail.ensures) in
    let d = delivery m now c.loop-executive.invariant.sound q near some in
    let u = subst (λ l. IsUnderWay m (deliveries_from q e) l e now) d.is c.loop-executive.invariant.under in
    let done = c.in_ok-done.ensures.done in
    record {
      sound = c.facts-in-loop-executive.ensures;
      network = ap (λ x. x.network) done ∙ c.loop-executive.invariant.network;
      elsewhere = then_elsewhere q e.world now.world c.take.new.executive.world c.loop-executive.invariant.elsewhere
          (subst (λ x. IsElsewhereSame q now.world x.world) (sym done) (deliver_elsewhere (network_of m now.network) now.until now.world q 0));
      under = subst (λ x. IsUnderWay m (deliveries_from q e) (deliveries_from q x) e c.take.new.executive) (sym done) (stepped m (Deliver q 0) (deliveries_from q (after m (Deliver q 0) now)) u done);
    }

pub returns-clause-done : goal.returns-clause-done
returns-clause-done g c =
    let m = g.M.Atomic.meaning in
    let e = c.args.executive.now in
    let q = c.args.receiver in
    let now = c.loop-executive.executive in
    let near : q < length now.network.models = omega (arith, c.requires, ap (λ n. length n.models) (same_network m c.loop-executive.invariant.under)) in
    let none : length (mail_of now.world.mail q) ≡ 0 = omega (arith, none_of (length c.mail.result.now) c.loop-executive-test.ensures, ap length c.mail.ensures) in
    subst (λ l. IsUnderWay m (deliveries_from q e) l e now) (no_delivery m now c.loop-executive.invariant.sound q near none) c.loop-executive.invariant.under

pub loop-executive-init : goal.loop-executive-init
loop-executive-init g c = record {
  sound = c.facts.ensures;
  network = refl;
  elsewhere = all_same c.args.receiver c.args.executive.now.world;
  under = begun g.M.Atomic.meaning (deliveries_from c.args.receiver c.args.executive.now) c.args.executive.now;
}

pub returns-clause-emptied : goal.returns-clause-emptied
returns-clause-emptied g c =
    nil_from_length (mail_of c.loop-executive.executive.world.mail c.args.receiver) (omega (arith, none_of (length c.mail.result.now) c.loop-executive-test.ensures, ap length c.mail.ensures))
