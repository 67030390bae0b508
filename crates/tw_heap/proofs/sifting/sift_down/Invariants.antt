use Rattle.std.proofs.Common.{◌≡◌, ◌-◌, length}
use Rattle.std.specs.List.Sorted.{IsPermutation}
use Rattle.tw_heap.specs.Heap.{IsHeapBelow, IsPlaced}
use Rattle.tw_heap.proofs.sifting.sift_down.Given as goal

abbrev pub invariant-loop-place : goal.invariant-loop-place
invariant-loop-place l = record {
  len : length l.entries ≡ length l.fn.entries;
  placed : IsPlaced l.entries l.places;
  permutation : IsPermutation l.fn.entries l.entries;
  heap : IsHeapBelow l.entries l.place;
}

abbrev pub decreases-loop-place : goal.decreases-loop-place
decreases-loop-place l = length l.entries - l.place
