use Rattle.std.proofs.Common.{◌≡◌, ◌+◌}
use Rattle.tw_pool.specs.Lists.{without_first}
use Rattle.tw_pool.proofs.lists.Pool.cut_front.Given as goal

abbrev pub invariant-loop : goal.invariant-loop
invariant-loop g l = record {
  lists : l.self.lists ≡ without_first l.fn.self.lists l.list l.counter;
  room : l.self.room ≡ l.fn.self.room + l.counter;
  top : l.self.top ≡ l.fn.self.top;
}
