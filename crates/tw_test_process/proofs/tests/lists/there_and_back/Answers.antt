use Rattle.std.proofs.Common.{◌≡◌, ◌-◌, ◌≤◌, ◌++◌, length, drop, ap, sym, subst, ◌∙◌}
use Rattle.tw_msgs.specs.Messages.{Sorted}
use Rattle.tw_theory.specs.Bundles.{front}
use Rattle.tw_lists.proofs.Loops.{BagBack, bag_back, items_length}
use Rattle.tw_test_process.proofs.tests.lists.there_and_back.Goals.{After-len-count}
use Rattle.tw_test_process.proofs.tests.lists.there_and_back.Goals as goal

back : (c : After-len-count) → BagBack c.args.stamp c.len-count.result c.args.lists.now
back c = bag_back c.args.stamp c.len-count.result c.args.lists.now (c.len-count.ensures ∙ ap length c.in_ok-bag.ensures.bag ∙ items_length (front c.args.stamp c.args.lists.now.pending)) c.order_law.ensures

pub restore-requires-clause-n : goal.restore-requires-clause-n
restore-requires-clause-n c = subst (λ l. c.len-count.result ≤ length l.consumed) (sym c.in_ok-bag.ensures.ok) (back (goal.at.restore-requires-clause-n c).After-len-count).within

pub restore-requires-clause-sorted : goal.restore-requires-clause-sorted
restore-requires-clause-sorted c = subst (λ l. Sorted (drop (length l.consumed - c.len-count.result) l.consumed ++ l.pending)) (sym c.in_ok-bag.ensures.ok) (back (goal.at.restore-requires-clause-sorted c).After-len-count).sorted
