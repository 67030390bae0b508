use Rattle.std.proofs.Common.{◌≡◌, ap, sym, ◌∙◌, arith, length}
use Rattle.tw_pool.specs.Lists.{list_at}
use Rattle.tw_lists.specs.Finders.{Finds}
use Rattle.tw_lists.specs.Lists.{with_overdue_posted}
use Rattle.tw_lists.specs.Nodes.{contents, spare_of}
use Rattle.tw_lists.specs.Falling.{FallIf}
use Rattle.tw_lists.proofs.Falling.{falls_all}
use Rattle.tw_lists.proofs.Found.{none_overdue, finds_at}
use Rattle.tw_lists.proofs.Owing.{Settled, settled_kept}
use Rattle.tw_lists.proofs.lists.EventLists.settle_all.Goals.{After-post_overdue, After-is_some-self-inside}
use Rattle.tw_lists.proofs.lists.EventLists.settle_all.Goals as goal

all : (c : After-post_overdue) → Settled c.self.inside.pool.lists c.post_overdue.new.pool.lists c.args.next c.post_overdue.new.pool.room c.self.inside.pool.top c.post_overdue.new.pool.top c.self.inside.heap
all c = settled_kept c.self.inside.pool.lists c.post_overdue.new.pool.lists c.args.next c.post_overdue.new.pool.room c.self.inside.pool.top c.post_overdue.new.pool.top c.self.inside.heap c.self.invariant.0 c.post_overdue.ensures.lists c.post_overdue.ensures.top

still_waiting : (c : After-post_overdue) → Finds c.self.inside.waiting.known c.self.inside.waiting.late (list_at c.post_overdue.new.pool.lists 4)
still_waiting c = finds_at c.self.inside.waiting.known c.self.inside.waiting.late (list_at c.self.inside.pool.lists 4) (list_at c.post_overdue.new.pool.lists 4) (all c).waiting_stays c.self.invariant.1.0

falls : (c : After-is_some-self-inside) → FallIf c.is_some-self-inside.result (list_at c.post_overdue.new.pool.lists 5)
falls c some = falls_all c.top_of_last.result (list_at c.post_overdue.new.pool.lists 5) c.len-left.result c.len-left.ensures.value c.top_of_last.ensures.falling (sym c.is_some-self-inside.ensures ∙ some)

pub invariant_of-self : goal.invariant_of-self
invariant_of-self c =
    let at = (goal.at.invariant_of-self c).After-post_overdue in
    ((all at).kept, (still_waiting at, c.forget.ensures (list_at c.post_overdue.new.pool.lists 5) (sym c.len-left.ensures.value)), falls (goal.at.invariant_of-self c).After-is_some-self-inside)

pub invariant_of-self-else-left-before : goal.invariant_of-self-else-left-before
invariant_of-self-else-left-before c =
    let at = (goal.at.invariant_of-self-else-left-before c).After-post_overdue in
    let done = all at in
    let l = list_at c.self.inside.pool.lists 5 in
    let same = none_overdue c.args.next l (omega (arith, c.len-before.ensures.value, c.len-left.ensures.value, ap length done.owed_is, c.if-left-before.false)) in
    (done.kept, (still_waiting at, finds_at c.self.inside.owed.known c.self.inside.owed.late l (list_at c.post_overdue.new.pool.lists 5) (done.owed_is ∙ same) c.self.invariant.1.1), falls (goal.at.invariant_of-self-else-left-before c).After-is_some-self-inside)

contents_are : (c : After-post_overdue) → contents c.post_overdue.new.pool.lists c.post_overdue.new.pool.room (spare_of c.post_overdue.new.pool.top c.self.inside.heap (length (list_at c.post_overdue.new.pool.lists 1))) c.self.inside.heap.entries ≡ with_overdue_posted c.args.next c.args.self.now
contents_are c =
    (all c).contents_is
    ∙ ap (λ r. with_overdue_posted c.args.next (contents c.self.inside.pool.lists r (spare_of c.self.inside.pool.top c.self.inside.heap (length (list_at c.self.inside.pool.lists 1))) c.self.inside.heap.entries)) c.post_overdue.ensures.room
    ∙ ap (with_overdue_posted c.args.next) c.self.view_is

pub returns-then-left-before : goal.returns-then-left-before
returns-then-left-before c = contents_are (goal.at.returns-then-left-before c).After-post_overdue

pub returns-else-left-before : goal.returns-else-left-before
returns-else-left-before c = contents_are (goal.at.returns-else-left-before c).After-post_overdue
