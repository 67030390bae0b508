use Rattle.std.proofs.Common.{◌≡◌, ◌-◌, ap, sym, subst, ◌∙◌, length, take}
use Rattle.tw_pool.specs.Lists.{list_at}
use Rattle.tw_lists.specs.Falling.{IsFalling}
use Rattle.tw_lists.specs.Lists.{with_overdue_posted}
use Rattle.tw_lists.specs.Nodes.{contents, spare_of, IsSettled}
use Rattle.tw_lists.proofs.Falling.{falling_take}
use Rattle.tw_lists.proofs.Found.{finds_at}
use Rattle.tw_lists.proofs.Owing.{Settled, posted_last, settled_kept}
use Rattle.tw_lists.proofs.lists.EventLists.settle.Goals.{After-relink_last}
use Rattle.tw_lists.proofs.lists.EventLists.settle.Goals as goal

falls : (c : After-relink_last) → IsFalling (list_at c.self.inside.pool.lists 5)
falls c = c.self.invariant.2 c.if-not-self.false

posted : (c : After-relink_last) → IsSettled c.args.next (length (list_at c.self.inside.pool.lists 5)) c.self.inside.pool.lists c.relink_last.new.self.lists
    × (list_at c.relink_last.new.self.lists 5 ≡ take (length (list_at c.self.inside.pool.lists 5) - c.leave_overdue-count.result) (list_at c.self.inside.pool.lists 5))
posted c =
    posted_last c.self.inside.pool.lists c.relink_last.new.self.lists c.args.next c.leave_overdue-count.result c.lists_law.ensures.count (falls c)
    c.leave_overdue-count.ensures.last c.leave_overdue-count.ensures.overdue c.relink_last.ensures.lists

all : (c : After-relink_last) → Settled c.self.inside.pool.lists c.relink_last.new.self.lists c.args.next c.relink_last.new.self.room c.self.inside.pool.top c.relink_last.new.self.top c.self.inside.heap
all c = settled_kept c.self.inside.pool.lists c.relink_last.new.self.lists c.args.next c.relink_last.new.self.room c.self.inside.pool.top c.relink_last.new.self.top c.self.inside.heap c.self.invariant.0 (posted c).0 c.relink_last.ensures.top

pub invariant_of-self : goal.invariant_of-self
invariant_of-self c =
    let at = (goal.at.invariant_of-self c).After-relink_last in
    let l = list_at c.self.inside.pool.lists 5 in
    let kept = take (length l - c.leave_overdue-count.result) l in
    let left = (posted at).1 in (
      (all at).kept,
      (
        finds_at c.self.inside.waiting.known c.self.inside.waiting.late (list_at c.self.inside.pool.lists 4) (list_at c.relink_last.new.self.lists 4) (all at).waiting_stays c.self.invariant.1.0,
        finds_at c.leave_overdue-count.new.self.known c.leave_overdue-count.new.self.late kept (list_at c.relink_last.new.self.lists 5) left c.leave_overdue-count.ensures.finds,
      ),
      λ _. subst IsFalling (sym left) (falling_take (length l - c.leave_overdue-count.result) l (falls at)),
    )

pub returns : goal.returns
returns c =
    (all c).contents_is
    ∙ ap (λ r. with_overdue_posted c.args.next (contents c.self.inside.pool.lists r (spare_of c.self.inside.pool.top c.self.inside.heap (length (list_at c.self.inside.pool.lists 1))) c.self.inside.heap.entries)) c.relink_last.ensures.room
    ∙ ap (with_overdue_posted c.args.next) c.self.view_is
