use Rattle.std.proofs.Common.{ap, sym, ◌∙◌, arith, length}
use Rattle.tw_exchange.proofs.IdleLemmas.{empty_all, empty_not, not_empty, some_of}
use Rattle.tw_exchange.proofs.PassByPass.{mail_count}
use Rattle.tw_theory.specs.Exchange.{is_empty}
use Rattle.tw_exchange.proofs.idle.all_empty.Goals as goal

pub returns-then-not-is_empty : goal.returns-then-not-is_empty
returns-then-not-is_empty g c =
    sym (empty_not c.args.executive.now.world.mail c.loop-component.component (ap is_empty (sym c.mail.ensures) ∙ not_empty c.mail.result.now (some_of (length c.mail.result.now) c.if-not-is_empty.ensures)))

pub returns : goal.returns
returns g c = sym (empty_all c.args.executive.now.world.mail (λ d near. c.loop-component.invariant d (omega (arith, near, c.loop-component-test.false, c.len-component-end.ensures, ap (λ x. length x.models) (c.deref.ensures ∙ c.network.ensures), mail_count g.M.Atomic.meaning c.args.executive.now c.facts.ensures))))
