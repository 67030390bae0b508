use Rattle.std.proofs.Common.{◌≢◌, ℕ, ◌+◌, ◌<◌, ◌≤◌}
use Rattle.tw_heap.specs.Heap.{at}
use Rattle.tw_heap.proofs.finding.find_place.Given as goal

abbrev pub invariant-loop-place : goal.invariant-loop-place
invariant-loop-place l = record {
  absent : (k : ℕ) → k < l.place → (at l.entries k).key ≢ l.key;
  -- the children of those up to its stamp are still looked at
  ahead : (k : ℕ) → k < l.place → (at l.entries k).key.stamp ≤ l.key.stamp → k + k + 2 < l.end;
  begun : 0 < l.end;
}
