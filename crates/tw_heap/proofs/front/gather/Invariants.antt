use Rattle.std.proofs.Common.{◌≡◌, ℕ, ◌+◌, ◌<◌, filter, map, nat_lt, take, true}
use Rattle.tw_heap.specs.Entries.{message_of}
use Rattle.tw_heap.specs.Heap.{at}
use Rattle.tw_heap.proofs.front.gather.Given as goal

abbrev pub invariant-loop-place : goal.invariant-loop-place
invariant-loop-place l = record {
  so_far : l.messages.items ≡ filter (λ m. nat_lt m.stamp l.stamp) (map message_of (take l.place l.entries));
  -- the children of those found are still looked at
  ahead : (k : ℕ) → k < l.place → nat_lt (at l.entries k).key.stamp l.stamp ≡ true → k + k + 2 < l.end;
  begun : 0 < l.end;
}
