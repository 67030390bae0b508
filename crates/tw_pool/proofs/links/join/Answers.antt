use Rattle.tw_pool.proofs.NodeLinks.{IsThere-next}
use Rattle.tw_pool.proofs.links.join.Goals as goal

pub set_prev-requires-clause-there : goal.set_prev-requires-clause-there
set_prev-requires-clause-there g c = rw c.set_next.ensures.nodes (IsThere-next _ _ _ _ c.requires.right)
