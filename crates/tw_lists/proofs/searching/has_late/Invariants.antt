use Rattle.std.proofs.Common.{IfSome}
use Rattle.tw_pool.specs.Lists.{list_at, IsLive}
use Rattle.tw_lists.proofs.Behind.{WalkedBack}
use Rattle.tw_lists.proofs.searching.has_late.Given as goal

abbrev pub invariant-loop : goal.invariant-loop
invariant-loop l = record {
  walked : WalkedBack l.message (list_at l.pool.lists l.list) l.counter l.at;
  live : IfSome l.at (λ index. IsLive index l.pool.lists);
}
