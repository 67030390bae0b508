use Rattle.std.proofs.Common.{IfSome}
use Rattle.tw_pool.specs.Lists.{list_at, IsLive}
use Rattle.tw_lists.proofs.Overdue.{ReadBack}
use Rattle.tw_lists.proofs.reading.first_overdue.Given as goal

abbrev pub invariant-loop : goal.invariant-loop
invariant-loop l = record {
  walked : ReadBack (list_at l.pool.lists 5) l.counter l.first l.before;
  live : IfSome l.before (λ index. IsLive index l.pool.lists);
}
