use Rattle.tw_test_schedules.proofs.Staying.{passed}
use Rattle.tw_exchange.specs.Sweeping.{sweep_of}
use Rattle.tw_test_schedules.proofs.desk.Desk.sweep.Goals as goal

pub invariant_of-self : goal.invariant_of-self
invariant_of-self g c =
    let x = c.self.inside.exchange in
    passed g.M.Atomic.meaning g.H.Given.network g.H.Given.until (sweep_of g.M.Atomic.meaning x.executive) x c.sweep.new.self c.sweep.result c.sweep.ensures.swept c.sweep.ensures.cut_short c.self.invariant
