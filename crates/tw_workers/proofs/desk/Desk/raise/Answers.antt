use Rattle.std.proofs.Common.{◌≡◌, ap, subst, sym, ◌∙◌}
use Rattle.tw_exchange.proofs.Coming.{since_further}
use Rattle.tw_workers.proofs.GivenUp.{none_yet}
use Rattle.tw_workers.specs.Runs.{HasEnded}
use Rattle.tw_workers.proofs.desk.Desk.raise.Goals as goal

pub invariant_of-self : goal.invariant_of-self
invariant_of-self g c =
    let x = c.self.inside.exchange in
    let new = c.raise.new.self in
    let given = subst (λ b. g.H.Given.is_given x.executive.network x.executive.until b) (sym (ap (λ p. p.board) c.raise.ensures.posted)) c.self.invariant.0 in (
      subst (λ e. g.H.Given.is_given e.network e.until new.publisher.board) (sym c.raise.ensures.raised) given,
      none_yet c.self.inside.end (λ token. (token.of ≡ g.H.Given.cell) × HasEnded g.M.Atomic.meaning new.executive token.value) (sym c.is_some.ensures ∙ c.if-is_some.false),
      since_further g.H.Given.is_begun x.executive.world new.executive.world c.self.invariant.2 c.raise.ensures.further,
      c.self.invariant.3,
    )
