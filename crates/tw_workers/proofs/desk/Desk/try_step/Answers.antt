use Rattle.std.proofs.Common.{◌≡◌, ◌∙◌, sym}
use Rattle.tw_exchange.proofs.Staying.{acted_going}
use Rattle.tw_theory.specs.Executive.{Step}
use Rattle.tw_workers.proofs.GivenUp.{none_yet}
use Rattle.tw_workers.specs.Runs.{HasEnded}
use Rattle.tw_workers.proofs.desk.Desk.try_step.Goals as goal

pub invariant_of-self-in_default-2 : goal.invariant_of-self-in_default-2
invariant_of-self-in_default-2 g c =
    let s = acted_going g.M.Atomic.meaning g.H.Given.is_given g.H.Given.is_begun (Step c.args.component) c.self.inside.exchange c.act.new.self c.act.result c.act.ensures.done c.act.ensures.stays c.act.ensures.further (c.self.invariant.0, c.self.invariant.2) in
    (s.0, none_yet c.self.inside.end (λ token. (token.of ≡ g.H.Given.cell) × HasEnded g.M.Atomic.meaning c.act.new.self.executive token.value) (sym c.is_some.ensures ∙ c.if-is_some.false), s.1, c.self.invariant.3)
