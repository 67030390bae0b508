-- All before the side are later, and its winner is at the time.
use Rattle.std.proofs.Common.{◌≡◌, ◌≤◌, ◌<◌, ◌+◌, ℕ}
use Rattle.tw_tournament.specs.Winners.{at, PlayFor}
use Rattle.tw_tournament.proofs.gathering.first_at.Given as goal

abbrev pub invariant-loop-width : goal.invariant-loop-width
invariant-loop-width l = record {
  some : 1 ≤ l.place;
  below : PlayFor l.place l.width (l.row + l.first);
  within : l.first + l.width ≤ l.row;
  there : at l.winners l.place ≡ l.time;
  earlier : (i : ℕ) → i < l.first → l.time < at l.winners (l.row + i);
}

abbrev pub decreases-loop-width : goal.decreases-loop-width
decreases-loop-width l = l.width
