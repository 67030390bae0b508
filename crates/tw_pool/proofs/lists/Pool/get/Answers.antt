use Rattle.std.proofs.Common.{refl, sym, ◌∙◌}
use Rattle.tw_pool.proofs.LinkChanges.{spot, stored_spot, stored_is}
use Rattle.tw_pool.proofs.lists.Pool.get.Goals as goal

pub index-requires : goal.index-requires
index-requires g c =
    let live = rw (← c.self.view_is) at c.requires in
    rw (spot _ _ _ c.args.index c.self.invariant.linked live).is refl

pub returns : goal.returns
returns g c =
    let live = rw (← c.self.view_is) at c.requires in
    rw (← c.self.view_is) (sym (stored_spot _ _ c.args.index c.self.invariant.linked live) ∙ stored_is c.self.inside.nodes c.args.index _ c.index.ensures)
