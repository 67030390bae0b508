use Rattle.std.proofs.Common.{◌≡◌, ◌++◌, drop, map, IfSome}
use Rattle.tw_pool.specs.Lists.{list_at, first_of, IsLive}
use Rattle.tw_lists.specs.Lists.{message_at}
use Rattle.tw_lists.proofs.reading.messages_in.Given as goal

abbrev pub invariant-loop : goal.invariant-loop
invariant-loop l = record {
  at_is : l.at ≡ first_of (drop l.counter (list_at l.pool.lists l.list));
  all : l.messages.items ++ map message_at (drop l.counter (list_at l.pool.lists l.list)) ≡ map message_at (list_at l.pool.lists l.list);
  live : IfSome l.at (λ index. IsLive index l.pool.lists);
}
