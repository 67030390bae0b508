use Rattle.std.proofs.Common.{◌<◌, length, rules, arith}
use Rattle.tw_pool.proofs.ListsByIndex.{items_moved}
use Rattle.tw_pool.proofs.ListsSeen.{stands_in}
use Rattle.tw_pool.proofs.LinksRead.{within_lists, linked_distinct}
use Rattle.tw_pool.proofs.lists.Pool.relink.Goals as goal

pub returns-clause-lists : goal.returns-clause-lists
returns-clause-lists g c = search rules

pub returns-clause-items : goal.returns-clause-items
returns-clause-items g c =
    let old = c.args.self.now.lists in
    let within = within_lists c.self.inside.nodes c.self.inside.ends c.args.to_list (omega arith) in
    let inside : c.args.to_list < length old = rw (← c.self.view_is) within in
    let at = stands_in c.args.index old c.requires.live in
    items_moved old _ c.args.index c.args.to_list at.at.item at.item inside (returns-clause-lists g c at.at.item at.item) (linked_distinct _ _ c.link_last.ensures.linked)
