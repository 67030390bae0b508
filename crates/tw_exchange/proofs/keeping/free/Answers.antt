use Rattle.std.proofs.Common.{arith, sym, ap, subst, ◌∙◌}
use Rattle.std.proofs.lemmas.List.{length-map, set_past}
use Rattle.tw_exchange.specs.Exchanged.{IsExact, busy_in, is_out}
use Rattle.tw_exchange.proofs.Following.{busy_put, exact_put, exact_without, not_past}
use Rattle.tw_exchange.proofs.keeping.free.Goals as goal

pub returns-then-component-len-clause-exact : goal.returns-then-component-len-clause-exact
returns-then-component-len-clause-exact g c =
    subst (λ a. IsExact a c.args.executive.now.world.processes) (sym c.put.ensures)
    (exact_put c.args.agenda.now c.args.executive.now.world.processes c.args.component c.next.result c.contents.result.now.process c.requires c.contents.ensures.process c.next.ensures)

pub returns-then-component-len-clause-free : goal.returns-then-component-len-clause-free
returns-then-component-len-clause-free g c = ap busy_in c.put.ensures ∙ busy_put c.args.agenda.now c.args.component c.next.result

pub returns-else-component-len-clause-exact : goal.returns-else-component-len-clause-exact
returns-else-component-len-clause-exact g c =
    exact_without c.args.agenda.now c.args.executive.now.world.processes c.args.component c.requires
    (not_past c.args.agenda.now c.args.component (omega (arith, c.if-component-len.false, c.len.ensures)))

pub returns-else-component-len-clause-free : goal.returns-else-component-len-clause-free
returns-else-component-len-clause-free g c =
    sym (set_past (busy_in c.args.agenda.now) c.args.component _ (omega (arith, c.if-component-len.false, c.len.ensures, length-map c.args.agenda.now is_out)))
