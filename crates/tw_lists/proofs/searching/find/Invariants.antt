use Rattle.std.proofs.Common.{◌≡◌, drop, IfSome}
use Rattle.tw_pool.specs.Lists.{list_at, first_of, IsLive}
use Rattle.tw_lists.specs.Nodes.{index_of}
use Rattle.tw_lists.proofs.searching.find.Given as goal

abbrev pub invariant-loop : goal.invariant-loop
invariant-loop l = record {
  at_is : l.at ≡ first_of (drop l.counter (list_at l.pool.lists l.list));
  still : index_of l.message (list_at l.pool.lists l.list) ≡ index_of l.message (drop l.counter (list_at l.pool.lists l.list));
  live : IfSome l.at (λ index. IsLive index l.pool.lists);
}
