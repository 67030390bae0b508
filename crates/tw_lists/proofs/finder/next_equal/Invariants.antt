use Rattle.std.proofs.Common.{IfSome}
use Rattle.tw_pool.specs.Lists.{list_at, IsLive}
use Rattle.tw_lists.proofs.Learning.{Ahead}
use Rattle.tw_lists.proofs.finder.next_equal.Given as goal

abbrev pub invariant-loop : goal.invariant-loop
invariant-loop l = record {
  ahead : Ahead l.message (list_at l.pool.lists l.list) l.index l.counter l.at;
  live : IfSome l.at (λ index. IsLive index l.pool.lists);
}
