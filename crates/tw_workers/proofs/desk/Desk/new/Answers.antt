use Rattle.tw_exchange.proofs.Coming.{since_here}
use Rattle.tw_workers.proofs.desk.Desk.new.Goals as goal

pub invariant_of-result : goal.invariant_of-result
invariant_of-result g c = (c.requires.given, tt, since_here g.H.Given.is_begun c.args.exchange.executive.world c.requires.begun, c.requires.cell)
