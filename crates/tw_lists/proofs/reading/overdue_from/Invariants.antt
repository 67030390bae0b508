use Rattle.std.proofs.Common.{IfSome}
use Rattle.tw_pool.specs.Lists.{list_at, IsLive}
use Rattle.tw_lists.proofs.Overdue.{ReadOn}
use Rattle.tw_lists.proofs.reading.overdue_from.Given as goal

abbrev pub invariant-loop : goal.invariant-loop
invariant-loop l = record {
  walked : ReadOn l.next (list_at l.pool.lists 5) l.counter l.at l.messages.items;
  live : IfSome l.at (λ index. IsLive index l.pool.lists);
}
