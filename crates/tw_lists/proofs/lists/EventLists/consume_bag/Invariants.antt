use Rattle.std.proofs.Common.{◌≡◌, ◌++◌, ◌≤◌, length}
use Rattle.tw_theory.specs.Bundles.{front, items_of}
use Rattle.tw_lists.specs.Lists.{front_consumed, restored}
use Rattle.tw_lists.proofs.lists.EventLists.consume_bag.Given as goal

abbrev pub invariant-loop-message : goal.invariant-loop-message
invariant-loop-message l = record {
  same : front_consumed l.stamp l.self ≡ front_consumed l.stamp l.fn.self;
  bag_is : l.bag ++ items_of (front l.stamp l.self.pending) ≡ items_of (front l.stamp l.fn.self.pending);
  back : restored (length l.bag) l.self ≡ l.fn.self;
  within : length l.bag ≤ length l.self.consumed;
}

abbrev pub decreases-loop-message : goal.decreases-loop-message
decreases-loop-message l = length l.self.pending
