use Rattle.std.proofs.Common.{ap, sym, ◌∙◌, length}
use Rattle.tw_pool.specs.Lists.{list_at}
use Rattle.tw_lists.specs.Lists.{node_count}
use Rattle.tw_lists.specs.Nodes.{spare_of}
use Rattle.tw_lists.proofs.Counts.{count_is}
use Rattle.tw_lists.proofs.lists.EventLists.reserve.Goals as goal

pub returns-clause-limit : goal.returns-clause-limit
returns-clause-limit c =
    let f = c.self.inside in
    let count = sym (count_is f.pool.lists f.pool.room (spare_of f.pool.top f.heap (length (list_at f.pool.lists 1))) f.heap.entries c.lists_law.ensures.count c.self.invariant.0.count) ∙ ap node_count c.self.view_is in
    rw count at c.reserve.ensures.limit
