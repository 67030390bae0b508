use Rattle.std.proofs.Common.{◌≡◌, drop, IfSome}
use Rattle.tw_pool.specs.Lists.{list_at, first_of, IsLive}
use Rattle.tw_lists.specs.Nodes.{IsSettled}
use Rattle.tw_lists.proofs.settling.post_overdue.Given as goal

abbrev pub invariant-loop : goal.invariant-loop
invariant-loop l = record {
  at_is : l.at ≡ first_of (drop l.counter (list_at l.fn.pool.lists 5));
  settled : IsSettled l.next l.counter l.fn.pool.lists l.pool.lists;
  live : IfSome l.at (λ index. IsLive index l.pool.lists);
  room : l.pool.room ≡ l.fn.pool.room;
  top : l.pool.top ≡ l.fn.pool.top;
}
