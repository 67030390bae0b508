use Rattle.std.proofs.Common.{◌≡◌, ◌+◌, ◌-◌, suc, length, ap, subst, sym, ◌∙◌, arith}
use Rattle.std.proofs.lemmas.Result.{err_from_is_err_and}
use Rattle.tw_network.specs.Contents.{network_of}
use Rattle.tw_theory.specs.Exchange.{harvests}
use Rattle.tw_theory.specs.Executive.{Harvest}
use Rattle.tw_exchange.proofs.Looking.{harvest_looks, looks_then}
use Rattle.tw_exchange.proofs.PassByPass.{process_count}
use Rattle.tw_exchange.proofs.UnderWay.{cut, finished, next_harvest, no_harvest, stepped}
use Rattle.tw_exchange.specs.Queues.{LooksSame}
use Rattle.tw_exchange.specs.Sweeping.{IsUnderWay}
use Rattle.tw_exchange.proofs.sweeping.harvest_all.Goals as goal

pub loop-component-preserved : goal.loop-component-preserved
loop-component-preserved g c =
    let m = g.M.Atomic.meaning in
    let e = c.args.executive.now in
    let n = length e.world.processes in
    let k = c.loop-component.component in
    let now = c.loop-component.executive in
    let end : c.len-component-end.result ≡ n = omega (arith, c.len-component-end.ensures, ap (λ x. length x.models) (c.deref.ensures ∙ c.network.ensures), process_count m e c.facts.ensures) in
    let u = subst (λ l. IsUnderWay m (harvests 0 n) l e c.loop-component.executive) (next_harvest k n (omega (arith, c.loop-component-test.true, end))) c.loop-component.invariant.under in
    let more : suc k ≡ k + 1 = omega arith in
    let looks = subst (λ x. LooksSame now.world x.world) (sym c.in_ok-take.ensures.done) (harvest_looks (network_of m now.network) now.until now.world k) in
    record {
      under = subst (λ j. IsUnderWay m (harvests 0 n) (harvests j (n - j)) e c.take.new.executive) more (stepped m (Harvest k) (harvests (suc k) (n - suc k)) u c.in_ok-take.ensures.done);
      looks = looks_then e.world now.world c.take.new.executive.world c.loop-component.invariant.looks looks;
    }

pub returns-in_err-take-clause-cut_short : goal.returns-in_err-take-clause-cut_short
returns-in_err-take-clause-cut_short g c =
    let m = g.M.Atomic.meaning in
    let e = c.args.executive.now in
    let n = length e.world.processes in
    let k = c.loop-component.component in
    let end : c.len-component-end.result ≡ n = omega (arith, c.len-component-end.ensures, ap (λ x. length x.models) (c.deref.ensures ∙ c.network.ensures), process_count m e c.facts.ensures) in
    let u = subst (λ l. IsUnderWay m (harvests 0 n) l e c.loop-component.executive) (next_harvest k n (omega (arith, c.loop-component-test.true, end))) c.loop-component.invariant.under in
    let p = err_from_is_err_and c.from_residual.result c.from_residual.ensures.1 in
    rw (p.1, p.2) (cut m (Harvest k) (harvests (suc k) (n - suc k)) c.in_err-take.field-0.0 tt u c.in_err-take.ensures.stays c.in_err-take.ensures.wanting)

pub returns-clause-done : goal.returns-clause-done
returns-clause-done g c =
    let m = g.M.Atomic.meaning in
    let e = c.args.executive.now in
    let n = length e.world.processes in
    let k = c.loop-component.component in
    let end : c.len-component-end.result ≡ n = omega (arith, c.len-component-end.ensures, ap (λ x. length x.models) (c.deref.ensures ∙ c.network.ensures), process_count m e c.facts.ensures) in
    finished m (subst (λ l. IsUnderWay m (harvests 0 n) l e c.loop-component.executive) (no_harvest k n (omega (arith, c.loop-component-test.false, end))) c.loop-component.invariant.under)

-- what was refused changed nothing
pub returns-in_err-take-clause-looks : goal.returns-in_err-take-clause-looks
returns-in_err-take-clause-looks g c = subst (λ x. LooksSame c.args.executive.now.world x.world) (sym c.in_err-take.ensures.stays) c.loop-component.invariant.looks
