use Rattle.std.proofs.Common.{length, ap, subst, sym}
use Rattle.std.proofs.lemmas.Result.{err_from_is_err_and}
use Rattle.tw_theory.specs.Exchange.{deliveries, posts}
use Rattle.tw_exchange.proofs.UnderWay.{begun, cut_rest, cut_within, done_rest, joined}
use Rattle.tw_exchange.specs.Sweeping.{IsUnderWay, pass_of}
use Rattle.tw_exchange.proofs.sweeping.pass.Given.{Over}
use Rattle.tw_exchange.proofs.sweeping.pass.Goals.{In_ok-post_all}
use Rattle.tw_exchange.proofs.sweeping.pass.Goals as goal

-- the posts are done
posted : (g : Over) (c : In_ok-post_all g) → IsUnderWay g.M.Atomic.meaning (pass_of g.M.Atomic.meaning c.args.executive.now) (deliveries 0 c.post_all.new.executive.world.mail) c.args.executive.now c.post_all.new.executive
posted g c =
    let m = g.M.Atomic.meaning in
    let e = c.args.executive.now in
    let is = c.in_ok-post_all.ensures.done in
    subst (λ l. IsUnderWay m (pass_of m e) l e c.post_all.new.executive) (sym (ap (λ x. deliveries 0 x.world.mail) is)) (joined m (posts 0 (length e.world.processes)) _ (begun m (pass_of m e) e) is)

pub returns-in_err-post_all-clause-cut_short : goal.returns-in_err-post_all-clause-cut_short
returns-in_err-post_all-clause-cut_short g c =
    let m = g.M.Atomic.meaning in
    let e = c.args.executive.now in
    let p = err_from_is_err_and c.from_residual.result c.from_residual.ensures.1 in
    rw (p.1, p.2) (cut_within m (posts 0 (length e.world.processes)) _ c.in_err-post_all.field-0.0 (begun m (pass_of m e) e) c.in_err-post_all.ensures.cut_short)

pub returns-in_err-deliver_all-clause-cut_short : goal.returns-in_err-deliver_all-clause-cut_short
returns-in_err-deliver_all-clause-cut_short g c =
    let p = err_from_is_err_and c.from_residual-in_err-deliver_all.result c.from_residual-in_err-deliver_all.ensures.1 in
    rw (p.1, p.2) (cut_rest g.M.Atomic.meaning (deliveries 0 c.post_all.new.executive.world.mail) c.in_err-deliver_all.field-0.0 (posted g (goal.at.returns-in_err-deliver_all-clause-cut_short g c).In_ok-post_all) c.in_err-deliver_all.ensures.cut_short)

pub returns-clause-done : goal.returns-clause-done
returns-clause-done g c = done_rest g.M.Atomic.meaning (deliveries 0 c.post_all.new.executive.world.mail) (posted g (goal.at.returns-clause-done g c).In_ok-post_all) c.in_ok-deliver_all.ensures.done
