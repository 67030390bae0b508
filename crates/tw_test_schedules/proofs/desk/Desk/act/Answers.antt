use Rattle.tw_test_schedules.proofs.Staying.{acted}
use Rattle.tw_test_schedules.proofs.desk.Desk.act.Goals as goal

pub invariant_of-self : goal.invariant_of-self
invariant_of-self g c = acted g.M.Atomic.meaning g.H.Given.network g.H.Given.until c.args.action c.self.inside.exchange c.act.new.self c.act.result c.act.ensures.done c.act.ensures.stays c.self.invariant
