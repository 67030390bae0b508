use Rattle.std.proofs.Common.{◌≡◌}
use Rattle.tw_lists.specs.Nodes.{IsPart}
use Rattle.tw_lists.proofs.lists.EventLists.consume_equal.Given as goal

abbrev pub invariant-loop-item : goal.invariant-loop-item
invariant-loop-item l = record {
  taken_is : l.taken ≡ l.item-index;
  part : IsPart l.stamp l.item-index l.bag l.fn.self l.self;
}
