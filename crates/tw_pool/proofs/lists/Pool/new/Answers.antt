use Rattle.tw_pool.proofs.LinksHold.{holds_is}
use Rattle.tw_pool.proofs.LinksRead.{empty_pool, empty_holds}
use Rattle.tw_pool.proofs.lists.Pool.new.Goals as goal

pub invariant_of-result : goal.invariant_of-result
invariant_of-result g c = empty_pool _ _ c.new.ensures.empty

pub returns-clause-lists : goal.returns-clause-lists
returns-clause-lists g c = holds_is _ _ _ (empty_holds c.new.result g.row.L)
