use Rattle.std.proofs.Common.{◌≡◌, ◌<◌, length}
use Rattle.std.specs.List.Sorted.{IsPermutation}
use Rattle.tw_heap.specs.Heap.{IsHeapAbove, IsPlaced}
use Rattle.tw_heap.proofs.sifting.sift_up.Given as goal

abbrev pub invariant-loop-place : goal.invariant-loop-place
invariant-loop-place l = record {
  inside : l.place < length l.entries;
  len : length l.entries ≡ length l.fn.entries;
  placed : IsPlaced l.entries l.places;
  permutation : IsPermutation l.fn.entries l.entries;
  heap : IsHeapAbove l.entries l.place;
}

abbrev pub decreases-loop-place : goal.decreases-loop-place
decreases-loop-place l = l.place
