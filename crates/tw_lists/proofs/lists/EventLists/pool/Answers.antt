use Rattle.std.proofs.Common.{subst}
use Rattle.tw_lists.specs.Lists.{Lists, PoolHolds}
use Rattle.tw_lists.proofs.Lent.{pool_holds}
use Rattle.tw_lists.proofs.lists.EventLists.pool.Goals as goal

pub returns-clause-holds : goal.returns-clause-holds
returns-clause-holds c =
    let inside = c.self.inside in
    subst (λ (l : Lists). PoolHolds l.pending l.consumed l.sent l.outgoing l.waiting l.owed inside.pool.lists) c.self.view_is
    (pool_holds inside.pool.lists inside.heap c.self.invariant.0 c.lists_law.ensures.distinct c.entries_law.ensures.distinct)
