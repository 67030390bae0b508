use Rattle.std.proofs.Common.{arith, ◌∙◌}
use Rattle.std.proofs.lemmas.Bool.{both_ways}
use Rattle.tw_exchange.proofs.Following.{busy_again, exact_without, not_out, not_past}
use Rattle.tw_exchange.proofs.keeping.refresh.Goals as goal

pub returns-clause-busy : goal.returns-clause-busy
returns-clause-busy g c =
    c.free.ensures.free ∙ busy_again c.args.agenda.now c.args.component (omega (arith, c.if-component-len.false, c.len.ensures)) (λ out. both_ways c.is_out.result c.if-is_out.false (c.is_out.ensures.0 out))

pub returns-then-component-len-clause-exact : goal.returns-then-component-len-clause-exact
returns-then-component-len-clause-exact g c =
    exact_without c.args.agenda.now c.args.executive.now.world.processes c.args.component c.requires
    (not_past c.args.agenda.now c.args.component (omega (arith, c.if-component-len.true, c.len.ensures)))

pub returns-then-is_out-clause-exact : goal.returns-then-is_out-clause-exact
returns-then-is_out-clause-exact g c =
    exact_without c.args.agenda.now c.args.executive.now.world.processes c.args.component c.requires
    (not_out c.args.agenda.now c.args.component (c.is_out.ensures.1 c.if-is_out.true))
