use Rattle.tw_test_schedules.proofs.Staying.{given, ordered_near}
use Rattle.tw_test_schedules.proofs.desk.Desk.draw_near.Goals as goal

pub returns : goal.returns
returns g c = record {
  due = ordered_near g.M.Atomic.meaning g.H.Given.network g.H.Given.until g.M.Atomic.valid c.args.window c.args.burst c.args.reach c.self.inside.exchange c.draw_near.result c.draw_near.ensures.drawn c.draw_near.ensures.given.known c.draw_near.ensures.given.ready c.draw_near.ensures.given.limit c.self.invariant;
}

pub invariant_of-self : goal.invariant_of-self
invariant_of-self g c = given g.M.Atomic.meaning g.H.Given.network g.H.Given.until c.self.inside.exchange c.draw_near.new.self c.draw_near.result c.draw_near.ensures.given.busy c.draw_near.ensures.given.none_stays c.draw_near.ensures.given.stays c.self.invariant
