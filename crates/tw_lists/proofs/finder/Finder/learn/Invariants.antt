use Rattle.std.proofs.Common.{IfSome}
use Rattle.tw_pool.specs.Lists.{list_at, IsLive}
use Rattle.tw_lists.proofs.Learning.{FindsAt}
use Rattle.tw_lists.proofs.finder.Finder.learn.Given as goal

abbrev pub invariant-loop : goal.invariant-loop
invariant-loop l = record {
  finds : FindsAt l.self.known l.self.late (list_at l.pool.lists l.list) l.at;
  live : IfSome l.at (λ index. IsLive index l.pool.lists);
}
