use Rattle.std.proofs.Common.{◌≤◌, ◌-◌, ◌++◌, drop, length, ap, sym, subst, ◌∙◌, arith, rules}
use Rattle.tw_msgs.specs.Messages.{Sorted}
use Rattle.tw_theory.specs.Bundles.{front}
use Rattle.tw_lists.specs.Lists.{restored}
use Rattle.tw_lists.proofs.Loops.{BagBack, bag_back, items_length}
use Rattle.tw_process.proofs.taking.take_transition.Given.{Over}
use Rattle.tw_process.proofs.taking.take_transition.Goals.{After-len}
use Rattle.tw_process.proofs.taking.take_transition.Goals as goal

back : (g : Over) (c : After-len g) → BagBack c.args.step.now.done.stamp c.len.result c.args.lists.now
back g c =
    let yes = c.consume_equal.ensures.yes c.if-not-consume_equal.false in
    let s = c.args.step.now.done.stamp in
    bag_back s c.len.result c.args.lists.now (omega (arith, c.len.ensures, ap length yes.0, ap length c.as_slice.ensures, items_length (front s c.args.lists.now.pending))) c.order_law.ensures

pub restore-requires-clause-n : goal.restore-requires-clause-n
restore-requires-clause-n g c = subst (λ l. c.len.result ≤ length l.consumed) (sym (c.consume_equal.ensures.yes c.if-not-consume_equal.false).1) (back g (goal.at.restore-requires-clause-n g c).After-len).within

pub restore-requires-clause-sorted : goal.restore-requires-clause-sorted
restore-requires-clause-sorted g c =
    subst (λ l. Sorted (drop (length l.consumed - c.len.result) l.consumed ++ l.pending)) (sym (c.consume_equal.ensures.yes c.if-not-consume_equal.false).1) (back g (goal.at.restore-requires-clause-sorted g c).After-len).sorted

pub returns-then-not-room-clause-stays : goal.returns-then-not-room-clause-stays
returns-then-not-room-clause-stays g c =
    c.restore.ensures
    ∙ ap (restored c.len.result) (c.consume_equal.ensures.yes c.if-not-consume_equal.false).1
    ∙ (back g (goal.at.returns-then-not-room-clause-stays g c).After-len).same

pub push_reserved-requires : goal.push_reserved-requires
push_reserved-requires g c = c.has_room-room.ensures.counts_room c.if-not-room.false

pub returns-clause-room : goal.returns-clause-room
returns-clause-room g c = record { same = search rules; room = c.has_room-room.ensures.room c.if-not-room.false; kept = search rules }
