use Rattle.std.proofs.Common.{◌+◌, ◌<◌, arith, sym, ap, subst, ◌∙◌, length}
use Rattle.std.proofs.lemmas.Bool.{both_ways}
use Rattle.std.proofs.lemmas.List.{length-set}
use Rattle.tw_exchange.specs.Exchanged.{IsExactUpTo, busy_in}
use Rattle.tw_exchange.proofs.Following.{busy_again, busy_put, up_to_all, up_to_put}
use Rattle.tw_exchange.proofs.keeping.refresh_all.Goals as goal

pub loop-component-preserved : goal.loop-component-preserved
loop-component-preserved g c =
    let k = c.loop-component.component in
    let ps = c.args.executive.now.world.processes in
    let a = c.loop-component.agenda in
    let near : k < length a = omega (arith, c.loop-component-test.true, c.len-component-end.ensures, c.loop-component.invariant.count) in
    record {
      count = ap length c.put.ensures ∙ length-set a k _ ∙ c.loop-component.invariant.count;
      exact = subst (λ x. IsExactUpTo (k + 1) x ps) (sym c.put.ensures) (up_to_put k c.next.result a ps c.contents.result.now.process c.loop-component.invariant.exact c.contents.ensures.process c.next.ensures);
      busy = ap busy_in c.put.ensures ∙ busy_put a k c.next.result ∙ busy_again a k near (λ out. both_ways c.is_out.result c.if-is_out.false (c.is_out.ensures.0 out)) ∙ c.loop-component.invariant.busy;
    }

pub returns-clause-exact : goal.returns-clause-exact
returns-clause-exact g c = up_to_all c.loop-component.component c.loop-component.agenda c.args.executive.now.world.processes (omega (arith, c.loop-component-test.false, c.len-component-end.ensures, c.loop-component.invariant.count)) c.loop-component.invariant.exact
