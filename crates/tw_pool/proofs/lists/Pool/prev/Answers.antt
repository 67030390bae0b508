use Rattle.std.proofs.Common.{refl}
use Rattle.tw_pool.proofs.LinkChanges.{spot}
use Rattle.tw_pool.proofs.LinksRead.{prev_read, prev_read_live}
use Rattle.tw_pool.proofs.lists.Pool.prev.Goals as goal

pub index-requires : goal.index-requires
index-requires g c =
    let live = rw (← c.self.view_is) at c.requires in
    rw (spot _ _ _ c.args.index c.self.invariant.linked live).is refl

pub returns-clause-value : goal.returns-clause-value
returns-clause-value g c =
    let live = rw (← c.self.view_is) at c.requires in
    rw (← c.self.view_is) (prev_read _ _ c.args.index _ c.self.invariant.linked live c.index.ensures)

pub returns-clause-live : goal.returns-clause-live
returns-clause-live g c =
    let live = rw (← c.self.view_is) at c.requires in
    rw (← c.self.view_is) (prev_read_live _ _ c.args.index _ c.self.invariant.linked live c.index.ensures)
