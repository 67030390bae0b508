use Rattle.std.proofs.Common.{◌++◌, ◌-◌, drop, length, map, ap, subst, sym, ◌∙◌}
use Rattle.tw_msgs.specs.Messages.{Sorted}
use Rattle.tw_pool.specs.Lists.{list_at}
use Rattle.tw_pool.proofs.ListsByIndex.{last_none}
use Rattle.tw_lists.specs.Lists.{restored}
use Rattle.tw_lists.specs.Nodes.{contents, spare_of}
use Rattle.tw_lists.specs.Lists.{message_at}
use Rattle.tw_lists.proofs.NodeMoves.{restoring, restored_kept, Restoring, Restored}
use Rattle.tw_lists.proofs.Found.{found_same, fall_at}
use Rattle.tw_lists.proofs.lists.EventLists.restore_last.Goals.{After-get, After-insert}
use Rattle.tw_lists.proofs.lists.EventLists.restore_last.Goals as goal

at_last : (c : After-get) → Restoring c.self.inside.pool.lists c.self.inside.heap c.in-Some.index c.get.result.now
at_last c = restoring c.self.inside.pool.lists c.self.inside.heap c.in-Some.index c.get.result.now c.self.invariant.0 c.lists_law.ensures.count c.lists_law.ensures.distinct c.in-Some.ensures.value c.get.ensures

all : (c : After-insert) → Restoring c.self.inside.pool.lists c.self.inside.heap c.in-Some.index c.get.result.now → Restored c.self.inside.pool.lists c.relink.new.self.lists c.relink.new.self.room c.self.inside.pool.top c.relink.new.self.top c.self.inside.heap c.insert.new.self
all c last =
    restored_kept c.self.inside.pool.lists c.relink.new.self.lists c.relink.new.self.room c.self.inside.pool.top c.relink.new.self.top c.self.inside.heap c.insert.new.self c.in-Some.index c.get.result.now
    c.self.invariant.0 c.lists_law.ensures.count c.lists_law.ensures.distinct last (c.relink.ensures.lists c.get.result.now c.get.ensures) c.relink.ensures.top
    c.insert.ensures.entries c.insert.ensures.there c.insert.ensures.others c.insert.ensures.room c.insert.ensures.top
    (subst (λ v. Sorted (drop (length v.consumed - 1) v.consumed ++ v.pending)) (sym c.self.view_is) c.requires.sorted)

pub insert-requires-clause-index : goal.insert-requires-clause-index
insert-requires-clause-index c = (at_last (goal.at.insert-requires-clause-index c).After-get).below

pub insert-requires-clause-vacant : goal.insert-requires-clause-vacant
insert-requires-clause-vacant c = (at_last (goal.at.insert-requires-clause-vacant c).After-get).vacant

pub invariant_of-self : goal.invariant_of-self
invariant_of-self c = let done = all (goal.at.invariant_of-self c).After-insert (at_last (goal.at.invariant_of-self c).After-get) in (done.kept, found_same c.self.inside.waiting c.self.inside.owed c.self.inside.pool.lists c.relink.new.self.lists done.untouched c.self.invariant.1, fall_at c.self.inside.falling (list_at c.self.inside.pool.lists 5) (list_at c.relink.new.self.lists 5) done.untouched.owed c.self.invariant.2)

pub returns-in-Some : goal.returns-in-Some
returns-in-Some c =
    (all (goal.at.returns-in-Some c).After-insert (at_last (goal.at.returns-in-Some c).After-get)).contents_is
    ∙ ap (λ r. restored 1 (contents c.self.inside.pool.lists r (spare_of c.self.inside.pool.top c.self.inside.heap (length (list_at c.self.inside.pool.lists 1))) c.self.inside.heap.entries)) c.relink.ensures.room
    ∙ ap (restored 1) c.self.view_is

pub returns-in_default : goal.returns-in_default
returns-in_default c = absurd (c.requires.some (sym (ap (λ v. v.consumed) c.self.view_is) ∙ ap (λ l. map message_at l) (last_none c.self.inside.pool.lists 1 (sym c.in_default.ensures.value))))
