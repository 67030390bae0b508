use Rattle.std.proofs.Common.{◌≡◌, ◌∙◌, sym}
use Rattle.tw_exchange.proofs.Staying.{installed_going}
use Rattle.tw_workers.proofs.GivenUp.{none_yet}
use Rattle.tw_workers.specs.Runs.{HasEnded}
use Rattle.tw_workers.proofs.desk.Desk.take_in.Goals as goal

pub invariant_of-self-2 : goal.invariant_of-self-2
invariant_of-self-2 g c =
    let s = installed_going g.M.Atomic.meaning g.H.Given.is_given g.H.Given.is_begun c.args.prepareds c.self.inside.exchange c.finish.new.self c.in-Ok.finished c.in-Ok.ensures.installed c.in-Ok.ensures.publisher c.in-Ok.ensures.further (c.self.invariant.0, c.self.invariant.2) in
    (s.0, none_yet c.self.inside.end (λ token. (token.of ≡ g.H.Given.cell) × HasEnded g.M.Atomic.meaning c.finish.new.self.executive token.value) (sym c.is_some.ensures ∙ c.if-is_some.false), s.1, c.self.invariant.3)

pub finish-requires-clause-alike : goal.finish-requires-clause-alike
finish-requires-clause-alike g c = (c.requires _ _ _ c.self.invariant.0).alike
