use Rattle.std.proofs.Common.{◌<◌, ◌≤◌, subst, sym, ◌∙◌}
use Rattle.std.proofs.lemmas.Result.{err_from_is_err_and}
use Rattle.tw_theory.specs.Exchange.{work}
use Rattle.tw_exchange.proofs.Marking.{clear_swept, not_clear}
use Rattle.tw_exchange.proofs.PassByPass.{another_pass, no_pass}
use Rattle.tw_exchange.proofs.UnderWay.{cut_within, finished, joined}
use Rattle.tw_exchange.specs.Sweeping.{IsUnderWay, pass_of, passes_left, passes_of, replayed}
use Rattle.tw_exchange.proofs.sweeping.settle_all.Goals as goal

pub returns-in_err-pass-clause-cut_short : goal.returns-in_err-pass-clause-cut_short
returns-in_err-pass-clause-cut_short g c =
    let m = g.M.Atomic.meaning in
    let e = c.args.executive.now in
    let now = c.loop-executive.executive in
    let s = c.loop-executive.invariant in
    let a = another_pass m now s.sound (work e.world) s.work_le (not_clear c.loop-executive.queues now.world s.kept.marks c.is_clear.result c.is_clear.ensures.some c.loop-executive-test.true) in
    let rest = passes_left m (work e.world) (replayed m (pass_of m now) now) in
    let u = subst (λ l. IsUnderWay m (passes_of m e) l e now) a.is s.under in
    let p = err_from_is_err_and c.from_residual.result c.from_residual.ensures.1 in
    rw (p.1, p.2) (cut_within m (pass_of m now) rest c.in_err-pass.field-0.0 u c.in_err-pass.ensures.cut_short)

pub loop-executive-smaller : goal.loop-executive-smaller
loop-executive-smaller g c =
    let m = g.M.Atomic.meaning in
    let e = c.args.executive.now in
    let now = c.loop-executive.executive in
    let s = c.loop-executive.invariant in
    let a = another_pass m now s.sound (work e.world) s.work_le (not_clear c.loop-executive.queues now.world s.kept.marks c.is_clear.result c.is_clear.ensures.some c.loop-executive-test.true) in
    subst (λ x. work x.world < work now.world) (sym c.in_ok-pass.ensures.done) a.falls

pub loop-executive-preserved : goal.loop-executive-preserved
loop-executive-preserved g c =
    let m = g.M.Atomic.meaning in
    let e = c.args.executive.now in
    let now = c.loop-executive.executive in
    let s = c.loop-executive.invariant in
    let a = another_pass m now s.sound (work e.world) s.work_le (not_clear c.loop-executive.queues now.world s.kept.marks c.is_clear.result c.is_clear.ensures.some c.loop-executive-test.true) in
    let rest = passes_left m (work e.world) (replayed m (pass_of m now) now) in
    let u = subst (λ l. IsUnderWay m (passes_of m e) l e now) a.is s.under in
    let done = c.in_ok-pass.ensures.done in
    record {
      sound = c.facts-in-loop-executive.ensures;
      kept = c.pass.ensures.kept;
      busy = c.pass.ensures.busy ∙ s.busy;
      work_le = subst (λ x. work x.world ≤ work e.world) (sym done) a.work_le;
      under = subst (λ x. IsUnderWay m (passes_of m e) (passes_left m (work e.world) x) e c.pass.new.executive) (sym done) (joined m (pass_of m now) rest u done);
    }

pub returns-clause-settled : goal.returns-clause-settled
returns-clause-settled g c =
    let m = g.M.Atomic.meaning in
    let e = c.args.executive.now in
    let now = c.loop-executive.executive in
    let s = c.loop-executive.invariant in
    let clear = c.is_clear.ensures.clear c.loop-executive-test.false in
    finished m (subst (λ l. IsUnderWay m (passes_of m e) l e now) (no_pass m now s.sound (work e.world) (clear_swept c.loop-executive.queues now.world s.kept.marks clear.0 clear.1)) s.under)

pub returns-clause-nothing_left : goal.returns-clause-nothing_left
returns-clause-nothing_left g c =
    let clear = c.is_clear.ensures.clear c.loop-executive-test.false in
    clear_swept c.loop-executive.queues c.loop-executive.executive.world c.loop-executive.invariant.kept.marks clear.0 clear.1
