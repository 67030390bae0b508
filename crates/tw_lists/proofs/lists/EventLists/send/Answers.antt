use Rattle.std.proofs.Common.{◌≡◌, ◌≤◌, ◌+◌, arith, ap, ◌∙◌, length}
use Rattle.tw_pool.specs.Lists.{list_at, with_item_last}
use Rattle.tw_lists.specs.Lists.{with_sent, with_room}
use Rattle.tw_lists.specs.Nodes.{spare_of}
use Rattle.tw_lists.proofs.Sends.{added, on_ok, sent_kept, Sent}
use Rattle.tw_lists.proofs.Found.{found_same, fall_at}
use Rattle.tw_lists.proofs.lists.EventLists.send.Goals.{After-push_back-2}
use Rattle.tw_lists.proofs.lists.EventLists.send.Goals as goal

all : (c : After-push_back-2) → Sent c.self.inside.pool.lists c.push_back-2.new.self.lists c.push_back-2.new.self.room (spare_of c.push_back-2.new.self.top c.self.inside.heap (length (list_at c.push_back-2.new.self.lists 1))) c.args.message.now (spare_of c.self.inside.pool.top c.self.inside.heap (length (list_at c.self.inside.pool.lists 1))) c.self.inside.pool.room c.self.inside.heap
all c =
    let enough = ap (λ v. v.room) c.self.view_is in
    let room : 2 ≤ c.self.inside.pool.room = omega (arith, c.requires, enough) in
    let first_ok = c.push_back.ensures.inserted.succeeds (omega (arith, room)) in
    let first = added (λ index. c.push_back.new.self.lists ≡ with_item_last c.self.inside.pool.lists 2 (index, c.signed.result)) c.push_back.result c.push_back.ensures.added first_ok in
    let second = added (λ index. c.push_back-2.new.self.lists ≡ with_item_last c.push_back.new.self.lists 3 (index, c.signed-2.result)) c.push_back-2.result c.push_back-2.ensures.added (c.push_back-2.ensures.inserted.succeeds (omega (arith, room, on_ok (c.self.inside.pool.room ≤ c.push_back.new.self.room + 1) c.push_back.result c.push_back.ensures.inserted.room first_ok))) in
    sent_kept c.self.inside.pool.lists c.push_back.new.self.lists c.push_back-2.new.self.lists c.push_back-2.new.self.room (spare_of c.push_back-2.new.self.top c.self.inside.heap (length (list_at c.push_back-2.new.self.lists 1))) c.self.inside.pool.room (spare_of c.self.inside.pool.top c.self.inside.heap (length (list_at c.self.inside.pool.lists 1))) first.0 second.0 c.args.message.now c.self.inside.heap c.self.invariant.0 c.lists_law.ensures.count (first.1 ∙ ap (λ x. with_item_last c.self.inside.pool.lists 2 (first.0, x)) c.signed.ensures) (second.1 ∙ ap (λ x. with_item_last c.push_back.new.self.lists 3 (second.0, x)) c.signed-2.ensures)

pub invariant_of-self : goal.invariant_of-self
invariant_of-self c = let done = all (goal.at.invariant_of-self c).After-push_back-2 in (done.kept, found_same c.self.inside.waiting c.self.inside.owed c.self.inside.pool.lists c.push_back-2.new.self.lists done.untouched c.self.invariant.1, fall_at c.self.inside.falling (list_at c.self.inside.pool.lists 5) (list_at c.push_back-2.new.self.lists 5) done.untouched.owed c.self.invariant.2)

pub returns-clause-contents : goal.returns-clause-contents
returns-clause-contents c =
    (all (goal.at.returns-clause-contents c).After-push_back-2).contents_is ∙ ap (λ v. with_room c.push_back-2.new.self.room (spare_of c.push_back-2.new.self.top c.self.inside.heap (length (list_at c.push_back-2.new.self.lists 1))) (with_sent c.args.message.now v)) c.self.view_is
