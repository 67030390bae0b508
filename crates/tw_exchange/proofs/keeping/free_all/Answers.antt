use Rattle.std.proofs.Common.{◌+◌, arith, sym, ap, subst, ◌∙◌, length}
use Rattle.std.proofs.lemmas.List.{length-set}
use Rattle.tw_exchange.specs.Exchanged.{IsExactUpTo}
use Rattle.tw_exchange.proofs.Following.{AreFree, free_all, free_more, up_to_all, up_to_put}
use Rattle.tw_exchange.proofs.keeping.free_all.Goals as goal

pub loop-component-preserved : goal.loop-component-preserved
loop-component-preserved g c =
    let k = c.loop-component.component in
    let ps = c.args.executive.now.world.processes in
    let a = c.loop-component.agenda in
    record {
      count = ap length c.put.ensures ∙ length-set a k _ ∙ c.loop-component.invariant.count;
      exact = subst (λ x. IsExactUpTo (k + 1) x ps) (sym c.put.ensures) (up_to_put k c.next.result a ps c.contents.result.now.process c.loop-component.invariant.exact c.contents.ensures.process c.next.ensures);
      free = subst (AreFree (k + 1)) (sym c.put.ensures) (free_more k c.next.result a (omega (arith, c.loop-component-test.true, c.len-component-end.ensures, c.loop-component.invariant.count)) c.loop-component.invariant.free);
    }

pub returns-clause-exact : goal.returns-clause-exact
returns-clause-exact g c = up_to_all c.loop-component.component c.loop-component.agenda c.args.executive.now.world.processes (omega (arith, c.loop-component-test.false, c.len-component-end.ensures, c.loop-component.invariant.count)) c.loop-component.invariant.exact

pub returns-clause-free : goal.returns-clause-free
returns-clause-free g c = free_all (length c.args.agenda.now) c.loop-component.agenda c.loop-component.invariant.count (λ d near. c.loop-component.invariant.free d (omega (arith, near, c.loop-component-test.false, c.len-component-end.ensures)))
