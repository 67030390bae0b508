use Rattle.std.proofs.Common.{IfSome}
use Rattle.tw_pool.specs.Lists.{list_at, IsLive}
use Rattle.tw_lists.proofs.Falling.{FallsBack}
use Rattle.tw_lists.proofs.settling.top_of_last.Given as goal

abbrev pub invariant-loop : goal.invariant-loop
invariant-loop l = record {
  walked : FallsBack (list_at l.pool.lists l.list) l.counter l.top l.at;
  live : IfSome l.at (λ index. IsLive index l.pool.lists);
}
