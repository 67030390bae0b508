use Rattle.std.proofs.Common.{arith}
use Rattle.tw_pool.proofs.LinksRead.{len_read, len_limited}
use Rattle.tw_pool.proofs.lists.Pool.len.Goals as goal

pub returns-clause-value : goal.returns-clause-value
returns-clause-value g c = rw (← c.self.view_is) (len_read _ _ c.args.list c.self.invariant.linked)

pub returns-clause-limited : goal.returns-clause-limited
returns-clause-limited g c = len_limited _ _ c.args.list c.self.invariant (omega arith)
