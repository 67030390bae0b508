use Rattle.std.proofs.Common.{◌≡◌, ap, sym, subst, ◌∙◌, IsSome, length, rules, false}
use Rattle.tw_msgs.specs.Messages.{has}
use Rattle.tw_pool.specs.Lists.{list_at}
use Rattle.tw_lists.specs.Lists.{with_room, without_pending}
use Rattle.tw_lists.specs.Nodes.{spare_of}
use Rattle.tw_msgs.proofs.MessageLists.{without_absent}
use Rattle.tw_lists.proofs.Comings.{Withdrawn, withdrawn_kept, pending_live}
use Rattle.tw_lists.proofs.Found.{found_same, fall_at}
use Rattle.tw_lists.proofs.lists.EventLists.withdraw.Goals.{After-take}
use Rattle.tw_lists.proofs.lists.EventLists.withdraw.Goals as goal

pub remove-requires : goal.remove-requires
remove-requires c = subst (λ o. IsSome o) (sym c.in-Some.ensures.there) (search rules)

pub take-requires : goal.take-requires
take-requires c = (search rules, pending_live c.self.inside.pool.lists c.self.inside.heap c.in-Some.index c.args.message.now c.self.invariant.0 c.lists_law.ensures.count c.lists_law.ensures.distinct c.in-Some.ensures.there)

all : (c : After-take) → Withdrawn c.self.inside.pool.lists c.take.new.self.lists c.take.new.self.room (spare_of c.take.new.self.top c.remove.new.self (length (list_at c.take.new.self.lists 1))) c.self.inside.pool.room (spare_of c.self.inside.pool.top c.self.inside.heap (length (list_at c.self.inside.pool.lists 1))) c.self.inside.heap c.remove.new.self c.args.message.now
all c =
    withdrawn_kept c.self.inside.pool.lists c.take.new.self.lists c.take.new.self.room (spare_of c.take.new.self.top c.remove.new.self (length (list_at c.take.new.self.lists 1))) c.self.inside.pool.room (spare_of c.self.inside.pool.top c.self.inside.heap (length (list_at c.self.inside.pool.lists 1))) c.self.inside.heap c.remove.new.self c.in-Some.index c.args.message.now
    c.self.invariant.0 c.lists_law.ensures.count c.lists_law.ensures.distinct c.entries_law.ensures.sorted c.in-Some.ensures.there c.take.ensures.lists c.remove.ensures.entries c.remove.ensures.gone c.remove.ensures.others c.remove.ensures.room c.remove.ensures.top

pub invariant_of-self : goal.invariant_of-self
invariant_of-self c = let done = all c in (done.kept, found_same c.self.inside.waiting c.self.inside.owed c.self.inside.pool.lists c.take.new.self.lists done.untouched c.self.invariant.1, fall_at c.self.inside.falling (list_at c.self.inside.pool.lists 5) (list_at c.take.new.self.lists 5) done.untouched.owed c.self.invariant.2)

pub returns-clause-contents : goal.returns-clause-contents
returns-clause-contents c = (all c).contents_is ∙ ap (λ v. with_room c.take.new.self.room (spare_of c.take.new.self.top c.remove.new.self (length (list_at c.take.new.self.lists 1))) (without_pending c.args.message.now v)) c.self.view_is

pub returns-clause-answer : goal.returns-clause-answer
returns-clause-answer c = sym (all c).there ∙ ap (λ v. has c.args.message.now v.pending) c.self.view_is

pub returns-in_default-clause-answer : goal.returns-in_default-clause-answer
returns-in_default-clause-answer c = sym c.in_default.ensures.none ∙ ap (λ v. has c.args.message.now v.pending) c.self.view_is

pub returns-in_default-clause-contents : goal.returns-in_default-clause-contents
returns-in_default-clause-contents c =
    let now = c.args.self.now in
    let none : has c.args.message.now now.pending ≡ false = sym (ap (λ v. has c.args.message.now v.pending) c.self.view_is) ∙ c.in_default.ensures.none in
    sym (ap (λ l. record now { pending = l }) (without_absent c.args.message.now now.pending none))
