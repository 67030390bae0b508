use Rattle.std.proofs.Common.{arith, refl}
use Rattle.tw_pool.proofs.LinkChanges.{inserting, spot}
use Rattle.tw_pool.proofs.LinksHold.{holds_is, holds_linked}
use Rattle.tw_pool.proofs.links.link_before.Goals as goal

pub index-node-requires : goal.index-node-requires
index-node-requires g c = rw (spot _ _ _ c.args.at c.requires.linked c.requires.live).is refl

pub link-requires-clause-list_fits : goal.link-requires-clause-list_fits
link-requires-clause-list_fits g c =
    (inserting _ _ _ _ _ _ c.requires.linked c.requires.live c.index-node.ensures c.requires.index.1 c.requires.free).inside

pub link-requires-clause-left : goal.link-requires-clause-left
link-requires-clause-left g c =
    (inserting _ _ _ _ _ _ c.requires.linked c.requires.live c.index-node.ensures c.requires.index.1 c.requires.free).left

pub link-requires-clause-right : goal.link-requires-clause-right
link-requires-clause-right g c = (c.index-node.result.now, c.index-node.ensures)

pub link-requires-clause-len_fits : goal.link-requires-clause-len_fits
link-requires-clause-len_fits g c =
    let len = (inserting _ _ _ _ _ _ c.requires.linked c.requires.live c.index-node.ensures c.requires.index.1 c.requires.free).len in
    omega arith

pub returns-clause-linked : goal.returns-clause-linked
returns-clause-linked g c =
    holds_linked _ _ _ ((inserting _ _ _ _ _ _ c.requires.linked c.requires.live c.index-node.ensures c.requires.index.1 c.requires.free).holds _ _ c.link.ensures.nodes c.link.ensures.ends)

pub returns-clause-lists : goal.returns-clause-lists
returns-clause-lists g c =
    let coming = inserting _ _ _ _ _ _ c.requires.linked c.requires.live c.index-node.ensures c.requires.index.1 c.requires.free in
    rw coming.item (holds_is _ _ _ (coming.holds _ _ c.link.ensures.nodes c.link.ensures.ends))

pub returns-clause-more : goal.returns-clause-more
returns-clause-more g c =
    let coming = inserting _ _ _ _ _ _ c.requires.linked c.requires.live c.index-node.ensures c.requires.index.1 c.requires.free in
    rw (holds_is _ _ _ (coming.holds _ _ c.link.ensures.nodes c.link.ensures.ends)) coming.more

pub returns-clause-same : goal.returns-clause-same
returns-clause-same g c =
    (inserting _ _ _ _ _ _ c.requires.linked c.requires.live c.index-node.ensures c.requires.index.1 c.requires.free).same _ c.link.ensures.nodes
