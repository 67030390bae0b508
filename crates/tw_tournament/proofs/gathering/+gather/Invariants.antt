-- What is listed already, with what is still below the place, is what is asked for.
use Rattle.std.proofs.Common.{◌≡◌, ◌≤◌, ◌+◌, ◌++◌, drop, take}
use Rattle.tw_tournament.specs.Times.{numbers_at}
use Rattle.tw_tournament.specs.Winners.{at, PlayFor}
use Rattle.tw_tournament.proofs.gathering.+gather.Given as goal

abbrev pub decreases-gather : goal.decreases-gather
decreases-gather l = l.width

abbrev pub invariant-loop-width : goal.invariant-loop-width
invariant-loop-width l = record {
  some : 1 ≤ l.place;
  below : PlayFor l.place l.width (l.row + l.first);
  within : l.first + l.width ≤ l.row;
  smaller : l.width ≤ l.fn.width;
  there : at l.winners l.place ≡ l.time;
  listed : l.numbers.items ++ numbers_at l.time l.first (take l.width (drop (l.row + l.first) l.winners)) ≡ l.fn.numbers.items ++ numbers_at l.time l.fn.first (take l.fn.width (drop (l.row + l.fn.first) l.winners));
}

abbrev pub decreases-loop-width : goal.decreases-loop-width
decreases-loop-width l = l.width
