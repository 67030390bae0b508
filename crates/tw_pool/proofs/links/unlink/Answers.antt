use Rattle.std.proofs.Common.{Some, arith, refl, ◌∙◌}
use Rattle.tw_pool.proofs.LinkChanges.{leaving, leaving_free, leaving_fewer, stored_spot, spot, same_joined}
use Rattle.tw_pool.proofs.NodeLinks.{IsThere-joined}
use Rattle.tw_pool.proofs.LinksHold.{holds_is, holds_linked}
use Rattle.tw_pool.proofs.links.unlink.Goals as goal

pub index-node-requires : goal.index-node-requires
index-node-requires g c =
    rw (spot _ _ _ c.args.index c.requires.linked c.requires.live).is refl

pub join-requires-clause-list_fits : goal.join-requires-clause-list_fits
join-requires-clause-list_fits g c =
    (leaving _ _ _ _ c.requires.linked c.requires.live c.index-node.ensures).inside

pub join-requires-clause-left : goal.join-requires-clause-left
join-requires-clause-left g c =
    (leaving _ _ _ _ c.requires.linked c.requires.live c.index-node.ensures).left

pub join-requires-clause-right : goal.join-requires-clause-right
join-requires-clause-right g c =
    (leaving _ _ _ _ c.requires.linked c.requires.live c.index-node.ensures).right

pub shorten-requires-clause-list_fits : goal.shorten-requires-clause-list_fits
shorten-requires-clause-list_fits g c =
    let inside = (leaving _ _ _ _ c.requires.linked c.requires.live c.index-node.ensures).inside in
    omega arith

pub shorten-requires-clause-len : goal.shorten-requires-clause-len
shorten-requires-clause-len g c =
    (leaving _ _ _ _ c.requires.linked c.requires.live c.index-node.ensures).len _ c.join.ensures.ends

pub returns-clause-linked : goal.returns-clause-linked
returns-clause-linked g c =
    holds_linked _ _ _ ((leaving _ _ _ _ c.requires.linked c.requires.live c.index-node.ensures).holds _ _ c.join.ensures.nodes (rw (c.shorten.ensures, c.join.ensures.ends) refl))

pub returns-clause-lists : goal.returns-clause-lists
returns-clause-lists g c =
    holds_is _ _ _ ((leaving _ _ _ _ c.requires.linked c.requires.live c.index-node.ensures).holds _ _ c.join.ensures.nodes (rw (c.shorten.ensures, c.join.ensures.ends) refl))

pub returns-clause-same : goal.returns-clause-same
returns-clause-same g c = rw c.join.ensures.nodes (same_joined _ _ _)

pub returns-clause-free : goal.returns-clause-free
returns-clause-free g c =
    let lists = returns-clause-lists g c in
    rw lists (leaving_free _ _ _ c.requires.linked c.requires.live)

pub returns-clause-item : goal.returns-clause-item
returns-clause-item g c =
    let same = same_joined c.args.nodes.now c.index-node.result.now.prev c.index-node.result.now.next in
    rw c.join.ensures.nodes (same.items c.args.index ∙ stored_spot _ _ _ c.requires.linked c.requires.live)

pub returns-clause-there : goal.returns-clause-there
returns-clause-there g c =
    rw c.join.ensures.nodes (IsThere-joined _ _ _ (Some c.args.index) (c.index-node.result.now, c.index-node.ensures))

pub returns-clause-fewer : goal.returns-clause-fewer
returns-clause-fewer g c =
    let lists = returns-clause-lists g c in
    rw lists (leaving_fewer _ _ _ c.requires.linked c.requires.live)
