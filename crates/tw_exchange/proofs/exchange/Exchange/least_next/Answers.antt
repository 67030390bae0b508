use Rattle.std.proofs.Common.{ap, ◌∙◌}
use Rattle.tw_laws.specs.Cancelling.{least_own}
use Rattle.tw_exchange.proofs.LeastNext.{first_own, none_own}
use Rattle.tw_exchange.proofs.exchange.Exchange.least_next.Goals as goal

pub returns-in-Some : goal.returns-in-Some
returns-in-Some g c =
    let ps = c.self.inside.executive.world.processes in
    first_own ps c.self.inside.queues.standing c.self.invariant.0.marks.standing _ _ c.in-Some.ensures.least c.in-Some.ensures.before_end ∙ ap (λ x. least_own x.executive.world.processes) c.self.view_is

pub returns-in-None : goal.returns-in-None
returns-in-None g c =
    let ps = c.self.inside.executive.world.processes in
    none_own ps c.self.inside.queues.standing c.self.invariant.0.marks.standing (c.first.ensures.none c.in-None.is) ∙ ap (λ x. least_own x.executive.world.processes) c.self.view_is
