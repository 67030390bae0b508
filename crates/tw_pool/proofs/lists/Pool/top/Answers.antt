use Rattle.tw_pool.proofs.LinksRead.{live_below}
use Rattle.tw_pool.proofs.lists.Pool.top.Goals as goal

pub returns-clause-below : goal.returns-clause-below
returns-clause-below g c = rw (← c.self.view_is) (live_below _ _ _ c.self.invariant.linked c.capacity.ensures.slots)
