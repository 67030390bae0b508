use Rattle.std.proofs.Common.{◌≡◌, ℕ, ◌≤◌, refl, ap, sym, subst, ◌∙◌, arith, length, Result, Ok, Err, IsOk}
use Rattle.tw_pool.specs.Lists.{list_at, with_item_last}
use Rattle.tw_theory.specs.Bundles.{positive}
use Rattle.tw_lists.specs.Lists.{with_room, with_pending}
use Rattle.tw_lists.specs.Nodes.{spare_of}
use Rattle.tw_lists.specs.Lists.{event}
use Rattle.tw_lists.proofs.Comings.{Put, put_kept, Pushed, pushed, Spare, spare_means}
use Rattle.tw_lists.proofs.Found.{found_same, fall_at}
use Rattle.tw_lists.proofs.lists.EventLists.put_reserved.Goals.{After-lists_law-in-Ok, After-insert}
use Rattle.tw_lists.proofs.lists.EventLists.put_reserved.Goals as goal

push : (c : After-lists_law-in-Ok) → Pushed c.self.inside.pool.lists c.push_back.new.self.lists c.in-Ok.index (positive c.args.message.now)
push c = pushed c.self.inside.pool.lists c.push_back.new.self.lists c.in-Ok.index (positive c.args.message.now) c.lists_law.ensures.count (c.in-Ok.ensures.added ∙ ap (λ x. with_item_last c.self.inside.pool.lists 0 (c.in-Ok.index, x)) c.signed.ensures) c.lists_law-in-Ok.ensures.distinct

means : (c : After-lists_law-in-Ok) → Spare c.self.inside.pool.top c.self.inside.heap (length (list_at c.self.inside.pool.lists 1))
means c = spare_means c.self.inside.pool.top c.self.inside.heap (length (list_at c.self.inside.pool.lists 1)) (subst (λ v. 1 ≤ v.spare) (sym c.self.view_is) c.requires.spare)

pub insert-requires : goal.insert-requires
insert-requires c =
    let at = (goal.at.insert-requires c).After-lists_law-in-Ok in
    let spare = means at in
    let room = ap (λ v. v.room) c.self.view_is in
    record {
      room = omega (arith, spare.room);
      index = omega (arith, spare.below, c.in-Ok.ensures.inserted.below, c.in-Ok.ensures.inserted.had_top (omega (arith, c.requires.room, room)));
      vacant = c.self.invariant.0.same c.in-Ok.index ∙ ap (event c.in-Ok.index) (push at).vacant;
    }

all : (c : After-insert) → Pushed c.self.inside.pool.lists c.push_back.new.self.lists c.in-Ok.index (positive c.args.message.now) → Spare c.self.inside.pool.top c.self.inside.heap (length (list_at c.self.inside.pool.lists 1))
    → Put c.self.inside.pool.lists c.push_back.new.self.lists c.push_back.new.self.room (spare_of c.push_back.new.self.top c.insert.new.self (length (list_at c.push_back.new.self.lists 1))) c.self.inside.pool.room (spare_of c.self.inside.pool.top c.self.inside.heap (length (list_at c.self.inside.pool.lists 1))) c.self.inside.heap c.insert.new.self c.args.message.now
all c at spare =
    put_kept c.self.inside.pool.lists c.push_back.new.self.lists c.push_back.new.self.room (spare_of c.push_back.new.self.top c.insert.new.self (length (list_at c.push_back.new.self.lists 1))) c.self.inside.pool.room (spare_of c.self.inside.pool.top c.self.inside.heap (length (list_at c.self.inside.pool.lists 1))) c.self.inside.heap c.insert.new.self c.in-Ok.index (positive c.args.message.now)
    c.self.invariant.0 refl at c.insert.ensures.entries c.insert.ensures.there c.insert.ensures.others (omega (arith, spare.room, c.insert.ensures.room)) c.insert.ensures.top c.entries_law.ensures.sorted

pub invariant_of-self : goal.invariant_of-self
invariant_of-self c =
    let at = (goal.at.invariant_of-self c).After-lists_law-in-Ok in
    let done = all c (push at) (means at) in
    (done.kept, found_same c.self.inside.waiting c.self.inside.owed c.self.inside.pool.lists c.push_back.new.self.lists done.untouched c.self.invariant.1, fall_at c.self.inside.falling (list_at c.self.inside.pool.lists 5) (list_at c.push_back.new.self.lists 5) done.untouched.owed c.self.invariant.2)

pub returns-in-Ok : goal.returns-in-Ok
returns-in-Ok c =
    let at = (goal.at.returns-in-Ok c).After-lists_law-in-Ok in
    (all c (push at) (means at)).contents_is ∙ ap (λ v. with_room c.push_back.new.self.room (spare_of c.push_back.new.self.top c.insert.new.self (length (list_at c.push_back.new.self.lists 1))) (with_pending c.args.message.now v)) c.self.view_is

not_err : {E : Type 0} (r : Result ℕ E) (e : E) → IsOk r → r ≡ Err e → ⊥
not_err (Ok x) e ok is = cc is
not_err (Err x) e ok is = absurd (cc)

pub invariant_of-self-in_default : goal.invariant_of-self-in_default
invariant_of-self-in_default c =
    let room = ap (λ v. v.room) c.self.view_is in
    absurd (not_err c.push_back.result c.in_default.field-0 (c.push_back.ensures.inserted.succeeds (omega (arith, c.requires.room, room))) c.in_default.is)
