use Rattle.std.proofs.Common.{arith}
use Rattle.tw_pool.proofs.LinkChanges.{arriving}
use Rattle.tw_pool.proofs.LinksHold.{holds_is, holds_linked}
use Rattle.tw_pool.proofs.links.link_last.Goals as goal

pub link-requires-clause-left : goal.link-requires-clause-left
link-requires-clause-left g c =
    (arriving _ _ _ _ _ c.requires.linked c.requires.list_fits c.requires.index.1 c.requires.free).left

pub link-requires-clause-len_fits : goal.link-requires-clause-len_fits
link-requires-clause-len_fits g c =
    let len = (arriving _ _ _ _ _ c.requires.linked c.requires.list_fits c.requires.index.1 c.requires.free).len in
    omega arith

pub returns-clause-linked : goal.returns-clause-linked
returns-clause-linked g c =
    holds_linked _ _ _ ((arriving _ _ _ _ _ c.requires.linked c.requires.list_fits c.requires.index.1 c.requires.free).holds _ _ c.link.ensures.nodes c.link.ensures.ends)

pub returns-clause-lists : goal.returns-clause-lists
returns-clause-lists g c =
    let coming = arriving _ _ _ _ _ c.requires.linked c.requires.list_fits c.requires.index.1 c.requires.free in
    rw coming.item (holds_is _ _ _ (coming.holds _ _ c.link.ensures.nodes c.link.ensures.ends))

pub returns-clause-more : goal.returns-clause-more
returns-clause-more g c =
    let coming = arriving _ _ _ _ _ c.requires.linked c.requires.list_fits c.requires.index.1 c.requires.free in
    rw (holds_is _ _ _ (coming.holds _ _ c.link.ensures.nodes c.link.ensures.ends)) coming.more

pub returns-clause-same : goal.returns-clause-same
returns-clause-same g c =
    (arriving _ _ _ _ _ c.requires.linked c.requires.list_fits c.requires.index.1 c.requires.free).same _ c.link.ensures.nodes
