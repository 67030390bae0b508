use Rattle.std.proofs.Common.{◌-◌, ◌/◌, sym, ◌∙◌}
use Rattle.tw_heap.proofs.HeapMoves.{parent_of}
use Rattle.tw_heap.proofs.HeapChanges.{goes_up, goes_down, only_parent, no_parent}
use Rattle.tw_heap.proofs.sifting.settle.Goals.{else-place-gt0-via-then-place-gt0+else-before, else-place-gt0-via-else-place-gt0}
use Rattle.tw_heap.proofs.sifting.settle.Goals as goal

pub sift_up-requires-clause-heap : goal.sift_up-requires-clause-heap
sift_up-requires-clause-heap c =
    let place = c.args.place in
    goes_up c.args.entries.now place ((place - 1) / 2) (parent_of place c.if-place-gt0.true) (sym c.before-then-place-gt0.ensures ∙ c.if-before.true) c.requires.heap

pub sift_down-requires-clause-heap : goal.sift_down-requires-clause-heap
sift_down-requires-clause-heap c =
    let es = c.args.entries.now in
    let place = c.args.place in
    elim c.else-place-gt0.branch [
      | else-place-gt0-via-then-place-gt0+else-before w ↦
          goes_down es place (only_parent es place w.if-place-gt0.true (sym w.before-then-place-gt0.ensures ∙ w.if-before.false)) c.requires.heap
      | else-place-gt0-via-else-place-gt0 w ↦ goes_down es place (no_parent es place w.if-place-gt0.false) c.requires.heap
    ]
