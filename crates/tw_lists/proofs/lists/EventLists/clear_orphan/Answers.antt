use Rattle.std.proofs.Common.{◌≡◌, ap, sym, ◌∙◌, is_some, arith, length, rules, false}
use Rattle.tw_msgs.specs.Messages.{has}
use Rattle.tw_pool.specs.Lists.{list_at, without}
use Rattle.tw_lists.specs.Lists.{with_room, without_orphan}
use Rattle.tw_lists.specs.Nodes.{spare_of}
use Rattle.tw_msgs.proofs.MessageLists.{without_absent}
use Rattle.tw_lists.proofs.Finding.{has_is}
use Rattle.tw_lists.proofs.Found.{finds_at, fall_at}
use Rattle.tw_lists.proofs.Comings.{Cleared, cleared_kept, found_live}
use Rattle.tw_lists.proofs.lists.EventLists.clear_orphan.Goals.{After-take}
use Rattle.tw_lists.proofs.lists.EventLists.clear_orphan.Goals as goal

pub take-requires : goal.take-requires
take-requires c = (search rules, found_live c.self.inside.pool.lists 4 c.in-Some.index c.args.message.now (omega (arith, c.lists_law.ensures.count)) c.lists_law.ensures.distinct (sym c.in-Some.ensures))

all : (c : After-take) → Cleared c.self.inside.pool.lists c.take.new.self.lists c.take.new.self.room (spare_of c.take.new.self.top c.self.inside.heap (length (list_at c.take.new.self.lists 1))) c.self.inside.pool.room (spare_of c.self.inside.pool.top c.self.inside.heap (length (list_at c.self.inside.pool.lists 1))) c.self.inside.heap c.args.message.now
all c =
    cleared_kept c.self.inside.pool.lists c.take.new.self.lists c.take.new.self.room (spare_of c.take.new.self.top c.self.inside.heap (length (list_at c.take.new.self.lists 1))) c.self.inside.pool.room (spare_of c.self.inside.pool.top c.self.inside.heap (length (list_at c.self.inside.pool.lists 1))) c.self.inside.heap c.in-Some.index c.args.message.now
    c.self.invariant.0 c.lists_law.ensures.count c.lists_law.ensures.distinct (sym c.in-Some.ensures) c.take.ensures.lists

pub invariant_of-self : goal.invariant_of-self
invariant_of-self c = (
  (all c).kept,
  (
    finds_at c.leave.new.self.known c.leave.new.self.late (list_at (without c.in-Some.index c.self.inside.pool.lists) 4) (list_at c.take.new.self.lists 4) (ap (λ ls. list_at ls 4) c.take.ensures.lists) c.leave.ensures,
    finds_at c.self.inside.owed.known c.self.inside.owed.late (list_at c.self.inside.pool.lists 5) (list_at c.take.new.self.lists 5) (all c).owed_stays c.self.invariant.1.1,
  ),
  fall_at c.self.inside.falling (list_at c.self.inside.pool.lists 5) (list_at c.take.new.self.lists 5) (all c).owed_stays c.self.invariant.2,
)

pub returns-clause-contents : goal.returns-clause-contents
returns-clause-contents c = (all c).contents_is ∙ ap (λ v. with_room c.take.new.self.room (spare_of c.take.new.self.top c.self.inside.heap (length (list_at c.take.new.self.lists 1))) (without_orphan c.args.message.now v)) c.self.view_is

pub returns-clause-answer : goal.returns-clause-answer
returns-clause-answer c = ap is_some c.in-Some.ensures ∙ sym (has_is c.args.message.now (list_at c.self.inside.pool.lists 4)) ∙ ap (λ v. has c.args.message.now v.waiting) c.self.view_is

pub returns-in_default-clause-answer : goal.returns-in_default-clause-answer
returns-in_default-clause-answer c = ap is_some c.in_default.ensures ∙ sym (has_is c.args.message.now (list_at c.self.inside.pool.lists 4)) ∙ ap (λ v. has c.args.message.now v.waiting) c.self.view_is

pub returns-in_default-clause-contents : goal.returns-in_default-clause-contents
returns-in_default-clause-contents c =
    let now = c.args.self.now in
    let none : has c.args.message.now now.waiting ≡ false = sym (ap is_some c.in_default.ensures ∙ sym (has_is c.args.message.now (list_at c.self.inside.pool.lists 4)) ∙ ap (λ v. has c.args.message.now v.waiting) c.self.view_is) in
    sym (ap (λ l. record now { waiting = l }) (without_absent c.args.message.now now.waiting none))
