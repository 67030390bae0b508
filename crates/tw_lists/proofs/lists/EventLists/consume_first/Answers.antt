use Rattle.std.proofs.Common.{arith, rules, ap, ◌∙◌, length, subst}
use Rattle.tw_heap.specs.Entries.{AreBelow}
use Rattle.tw_heap.proofs.EntriesByIndex.{behind_first}
use Rattle.tw_pool.specs.Lists.{list_at}
use Rattle.tw_lists.specs.Lists.{first_consumed}
use Rattle.tw_lists.specs.Nodes.{contents, spare_of}
use Rattle.tw_lists.proofs.NodeMoves.{consumed_kept, first_live, Consumed}
use Rattle.tw_lists.proofs.Found.{found_same, fall_at}
use Rattle.tw_lists.proofs.lists.EventLists.consume_first.Goals.{After-relink}
use Rattle.tw_lists.proofs.lists.EventLists.consume_first.Goals as goal

consumed : (c : After-relink) → Consumed c.self.inside.pool.lists c.relink.new.self.lists c.relink.new.self.room c.self.inside.pool.top c.relink.new.self.top c.self.inside.heap c.remove.new.self
consumed c =
    let at = behind_first c.self.inside.heap.entries c.in-Some.entry c.in-Some.ensures.value in
    consumed_kept c.self.inside.pool.lists c.relink.new.self.lists c.relink.new.self.room c.self.inside.pool.top c.relink.new.self.top c.self.inside.heap c.remove.new.self c.in-Some.entry at.rest
    c.self.invariant.0 c.lists_law.ensures.count c.lists_law.ensures.distinct at.split c.relink.ensures.lists c.relink.ensures.top
    (subst (λ es. AreBelow es c.self.inside.heap.top) at.split c.entries_law.ensures.below).0
    c.remove.ensures.entries c.remove.ensures.gone c.remove.ensures.others c.remove.ensures.room c.remove.ensures.top

pub relink-requires : goal.relink-requires
relink-requires c =
    let at = behind_first c.self.inside.heap.entries c.in-Some.entry c.in-Some.ensures.value in
    (search rules, (first_live c.self.inside.pool.lists c.self.inside.heap c.in-Some.entry at.rest c.self.invariant.0 c.lists_law.ensures.count c.lists_law.ensures.distinct at.split, omega arith))

pub invariant_of-self : goal.invariant_of-self
invariant_of-self c = let all = consumed (goal.at.invariant_of-self c).After-relink in (all.kept, found_same c.self.inside.waiting c.self.inside.owed c.self.inside.pool.lists c.relink.new.self.lists all.untouched c.self.invariant.1, fall_at c.self.inside.falling (list_at c.self.inside.pool.lists 5) (list_at c.relink.new.self.lists 5) all.untouched.owed c.self.invariant.2)

pub returns-in-Some : goal.returns-in-Some
returns-in-Some c =
    (consumed (goal.at.returns-in-Some c).After-relink).contents_is
    ∙ ap (λ r. first_consumed (contents c.self.inside.pool.lists r (spare_of c.self.inside.pool.top c.self.inside.heap (length (list_at c.self.inside.pool.lists 1))) c.self.inside.heap.entries)) c.relink.ensures.room
    ∙ ap first_consumed c.self.view_is
