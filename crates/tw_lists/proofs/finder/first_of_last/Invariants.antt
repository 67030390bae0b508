use Rattle.std.proofs.Common.{IfSome}
use Rattle.tw_pool.specs.Lists.{IsLive}
use Rattle.tw_pool.proofs.MovesToEnd.{Walked}
use Rattle.tw_lists.proofs.finder.first_of_last.Given as goal

abbrev pub invariant-loop : goal.invariant-loop
invariant-loop l = record {
  walked : Walked l.pool.lists l.list l.counter l.first l.before;
  live : IfSome l.first (λ index. IsLive index l.pool.lists);
}
