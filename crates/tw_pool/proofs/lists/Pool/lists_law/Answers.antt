use Rattle.tw_pool.proofs.LinksRead.{linked_distinct}
use Rattle.tw_pool.proofs.lists.Pool.lists_law.Goals as goal

pub returns-clause-distinct : goal.returns-clause-distinct
returns-clause-distinct g c = rw (← c.self.view_is) (linked_distinct _ _ c.self.invariant.linked)
