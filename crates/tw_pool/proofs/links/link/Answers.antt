use Rattle.std.proofs.Common.{Some}
use Rattle.tw_pool.specs.Links.{IsThere}
use Rattle.tw_pool.proofs.NodeLinks.{IsThere-edited, IsThere-by}
use Rattle.tw_pool.proofs.links.link.Goals as goal

pub join-requires-clause-left : goal.join-requires-clause-left
join-requires-clause-left g c = rw c.set_list.ensures (IsThere-edited _ _ _ _ c.requires.left)

pub join-requires-clause-right : goal.join-requires-clause-right
join-requires-clause-right g c = rw c.set_list.ensures (IsThere-edited _ _ _ (Some c.args.index) c.requires.index)

pub join-requires-2-clause-left : goal.join-requires-2-clause-left
join-requires-2-clause-left g c =
    let there : IsThere c.set_list.new.nodes (Some c.args.index) = rw c.set_list.ensures (IsThere-edited _ _ _ (Some c.args.index) c.requires.index) in
    IsThere-by c.set_list.new.nodes c.join.new.nodes c.args.left (Some c.args.index) (Some c.args.index) c.join.ensures.nodes there

pub join-requires-2-clause-right : goal.join-requires-2-clause-right
join-requires-2-clause-right g c =
    let there : IsThere c.set_list.new.nodes c.args.right = rw c.set_list.ensures (IsThere-edited _ _ _ _ c.requires.right) in
    IsThere-by c.set_list.new.nodes c.join.new.nodes c.args.left (Some c.args.index) c.args.right c.join.ensures.nodes there
