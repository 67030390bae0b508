use Rattle.std.proofs.Common.{◌≡◌, ◌∙◌, subst, sym}
use Rattle.tw_exchange.proofs.Staying.{IsGoing}
use Rattle.tw_workers.proofs.GivenUp.{none_yet}
use Rattle.tw_workers.specs.Runs.{HasEnded}
use Rattle.tw_workers.proofs.desk.Desk.look.Given.{Over}
use Rattle.tw_workers.proofs.desk.Desk.look.Goals.{After-find_end}
use Rattle.tw_workers.proofs.desk.Desk.look.Goals as goal

-- looking for the outcome leaves it as it was
looked : (g : Over) (c : After-find_end g) → IsGoing g.M.Atomic.meaning g.H.Given.is_given g.H.Given.is_begun c.find_end.new.exchange
looked g c = subst (λ y. IsGoing g.M.Atomic.meaning g.H.Given.is_given g.H.Given.is_begun y) (sym c.find_end.ensures.stays) (c.self.invariant.0, c.self.invariant.2)

pub invariant_of-self-in-Ok-None : goal.invariant_of-self-in-Ok-None
invariant_of-self-in-Ok-None g c =
    let s = looked g (goal.at.invariant_of-self-in-Ok-None g c).After-find_end in
    (s.0, none_yet c.self.inside.end (λ token. (token.of ≡ g.H.Given.cell) × HasEnded g.M.Atomic.meaning c.find_end.new.exchange.executive token.value) (sym c.is_some.ensures ∙ c.if-is_some.false), s.1, c.self.invariant.3)

pub invariant_of-self : goal.invariant_of-self
invariant_of-self g c =
    let s = looked g (goal.at.invariant_of-self g c).After-find_end in
    (s.0, none_yet c.self.inside.end (λ token. (token.of ≡ g.H.Given.cell) × HasEnded g.M.Atomic.meaning c.find_end.new.exchange.executive token.value) (sym c.is_some.ensures ∙ c.if-is_some.false), s.1, c.self.invariant.3)

pub invariant_of-self-in-Err : goal.invariant_of-self-in-Err
invariant_of-self-in-Err g c =
    let s = looked g (goal.at.invariant_of-self-in-Err g c).After-find_end in
    (s.0, none_yet c.self.inside.end (λ token. (token.of ≡ g.H.Given.cell) × HasEnded g.M.Atomic.meaning c.find_end.new.exchange.executive token.value) (sym c.is_some.ensures ∙ c.if-is_some.false), s.1, c.self.invariant.3)
