use Rattle.std.proofs.Common.{IfSome}
use Rattle.tw_pool.specs.Lists.{list_at, IsLive}
use Rattle.tw_lists.proofs.Leaving.{LastLeft}
use Rattle.tw_lists.proofs.finder.Finder.leave_overdue.Given as goal

abbrev pub invariant-loop-count : goal.invariant-loop-count
invariant-loop-count l = record {
  left : LastLeft l.self.known l.self.late l.next (list_at l.pool.lists l.list) l.count l.at;
  live : IfSome l.at (λ index. IsLive index l.pool.lists);
}
