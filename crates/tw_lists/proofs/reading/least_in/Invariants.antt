use Rattle.std.proofs.Common.{◌≡◌, ◌≤◌, drop, map, min, IfSome}
use Rattle.tw_pool.specs.Lists.{list_at, first_of, IsLive}
use Rattle.tw_theory.specs.Bundles.{least_stamp}
use Rattle.tw_vtime.specs.Stamps.{never}
use Rattle.tw_lists.specs.Lists.{item_at}
use Rattle.tw_lists.proofs.reading.least_in.Given as goal

abbrev pub invariant-loop : goal.invariant-loop
invariant-loop l = record {
  at_is : l.at ≡ first_of (drop l.counter (list_at l.pool.lists l.list));
  all : min l.least (least_stamp (map item_at (drop l.counter (list_at l.pool.lists l.list)))) ≡ least_stamp (map item_at (list_at l.pool.lists l.list));
  top : l.least ≤ never;
  live : IfSome l.at (λ index. IsLive index l.pool.lists);
}
