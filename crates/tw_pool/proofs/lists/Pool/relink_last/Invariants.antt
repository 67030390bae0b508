use Rattle.std.proofs.Common.{ℕ, ◌≡◌}
use Rattle.tw_pool.specs.Lists.{item_of}
use Rattle.tw_pool.proofs.MovesToEnd.{Walked, Spliced}
use Rattle.tw_pool.proofs.lists.Pool.relink_last.Given as goal

abbrev pub invariant-loop : goal.invariant-loop
invariant-loop g l = record { walked : Walked l.fn.self.lists l.from l.counter l.first l.before }

abbrev pub invariant-loop-2 : goal.invariant-loop-2
invariant-loop-2 g l = record {
  spliced : Spliced l.fn.self.lists l.self.lists l.from l.to l.count l.counter l.first;
  items : (each : ℕ) → item_of each l.self.lists ≡ item_of each l.fn.self.lists;
  room : l.self.room ≡ l.fn.self.room;
  top : l.self.top ≡ l.fn.self.top;
}
