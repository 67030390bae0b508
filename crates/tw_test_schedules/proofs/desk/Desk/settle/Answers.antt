use Rattle.tw_test_schedules.proofs.Staying.{passed}
use Rattle.tw_exchange.specs.Sweeping.{passes_of}
use Rattle.tw_test_schedules.proofs.desk.Desk.settle.Goals as goal

pub invariant_of-self : goal.invariant_of-self
invariant_of-self g c =
    let x = c.self.inside.exchange in
    passed g.M.Atomic.meaning g.H.Given.network g.H.Given.until (passes_of g.M.Atomic.meaning x.executive) x c.settle.new.self c.settle.result c.settle.ensures.settled c.settle.ensures.cut_short c.self.invariant
