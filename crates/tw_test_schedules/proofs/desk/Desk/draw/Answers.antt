use Rattle.tw_test_schedules.proofs.Staying.{given, ordered}
use Rattle.tw_test_schedules.proofs.desk.Desk.draw.Goals as goal

pub returns : goal.returns
returns g c = record {
  due = ordered g.M.Atomic.meaning g.H.Given.network g.H.Given.until g.M.Atomic.valid c.args.window c.args.burst c.self.inside.exchange c.draw.result c.draw.ensures.drawn c.draw.ensures.given.known c.draw.ensures.given.ready c.draw.ensures.given.limit c.self.invariant;
}

pub invariant_of-self : goal.invariant_of-self
invariant_of-self g c = given g.M.Atomic.meaning g.H.Given.network g.H.Given.until c.self.inside.exchange c.draw.new.self c.draw.result c.draw.ensures.given.busy c.draw.ensures.given.none_stays c.draw.ensures.given.stays c.self.invariant
