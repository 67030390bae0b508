use Rattle.std.proofs.Common.{◌≡◌, ◌∙◌, ap, sym}
use Rattle.tw_exchange.proofs.Staying.{IsGoing, stays_going}
use Rattle.tw_workers.proofs.GivenUp.{none_yet}
use Rattle.tw_workers.specs.Runs.{HasEnded}
use Rattle.tw_exchange.specs.Sweeping.{passes_of}
use Rattle.tw_workers.proofs.desk.Desk.pass_on.Given.{Over}
use Rattle.tw_workers.proofs.desk.Desk.pass_on.Goals.{After-settle}
use Rattle.tw_workers.proofs.desk.Desk.pass_on.Goals as goal

-- all posted and delivered, or a part of it
going : (g : Over) (c : After-settle g) → IsGoing g.M.Atomic.meaning g.H.Given.is_given g.H.Given.is_begun c.settle.new.self
going g c =
    let x = c.self.inside.exchange in
    stays_going g.M.Atomic.meaning g.H.Given.is_given g.H.Given.is_begun (passes_of g.M.Atomic.meaning x.executive) x c.settle.new.self c.settle.result c.settle.ensures.settled c.settle.ensures.cut_short
    (ap (λ p. p.board) c.settle.ensures.publisher) c.settle.ensures.further (c.self.invariant.0, c.self.invariant.2)

pub invariant_of-self : goal.invariant_of-self
invariant_of-self g c =
    let s = going g (goal.at.invariant_of-self g c).After-settle in
    (s.0, none_yet c.self.inside.end (λ token. (token.of ≡ g.H.Given.cell) × HasEnded g.M.Atomic.meaning c.settle.new.self.executive token.value) (sym c.is_some.ensures ∙ c.if-is_some.false), s.1, c.self.invariant.3)

pub invariant_of-self-in-Err-OutOfMemory : goal.invariant_of-self-in-Err-OutOfMemory
invariant_of-self-in-Err-OutOfMemory g c =
    let s = going g (goal.at.invariant_of-self-in-Err-OutOfMemory g c).After-settle in
    (s.0, none_yet c.self.inside.end (λ token. (token.of ≡ g.H.Given.cell) × HasEnded g.M.Atomic.meaning c.settle.new.self.executive token.value) (sym c.is_some.ensures ∙ c.if-is_some.false), s.1, c.self.invariant.3)

pub invariant_of-self-in-Err-Full : goal.invariant_of-self-in-Err-Full
invariant_of-self-in-Err-Full g c =
    let s = going g (goal.at.invariant_of-self-in-Err-Full g c).After-settle in
    (s.0, none_yet c.self.inside.end (λ token. (token.of ≡ g.H.Given.cell) × HasEnded g.M.Atomic.meaning c.settle.new.self.executive token.value) (sym c.is_some.ensures ∙ c.if-is_some.false), s.1, c.self.invariant.3)
