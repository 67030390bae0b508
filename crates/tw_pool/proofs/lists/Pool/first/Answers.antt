use Rattle.std.proofs.Common.{arith}
use Rattle.tw_pool.proofs.LinksRead.{first_read, first_read_live}
use Rattle.tw_pool.proofs.lists.Pool.first.Goals as goal

pub returns-clause-value : goal.returns-clause-value
returns-clause-value g c = rw (← c.self.view_is) (first_read _ _ c.args.list c.self.invariant.linked)

pub returns-clause-live : goal.returns-clause-live
returns-clause-live g c = rw (← c.self.view_is) (first_read_live _ _ c.args.list c.self.invariant.linked (omega arith))
