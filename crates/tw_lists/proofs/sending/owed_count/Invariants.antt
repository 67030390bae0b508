use Rattle.std.proofs.Common.{◌≡◌, ◌+◌, ◌≤◌, drop, map, IfSome}
use Rattle.tw_msgs.specs.Counting.{total, one_at}
use Rattle.tw_pool.specs.Lists.{list_at, first_of, IsLive}
use Rattle.tw_lists.specs.Lists.{message_at}
use Rattle.tw_lists.proofs.sending.owed_count.Given as goal

abbrev pub invariant-loop : goal.invariant-loop
invariant-loop l = record {
  at_is : l.at ≡ first_of (drop l.counter (list_at l.pool.lists 5));
  count_is : l.count + total (one_at l.message) (map message_at (drop l.counter (list_at l.pool.lists 5))) ≡ total (one_at l.message) (map message_at (list_at l.pool.lists 5));
  within : l.count ≤ l.counter;
  live : IfSome l.at (λ index. IsLive index l.pool.lists);
}
