use Rattle.std.proofs.Common.{◌≡◌, length, true, sym, ◌∙◌}
use Rattle.std.proofs.lemmas.List.Sorted.{IsPermutation-trans}
use Rattle.tw_heap.specs.Entries.{is_before}
use Rattle.tw_heap.specs.Heap.{at}
use Rattle.tw_heap.proofs.HeapMoves.{down_step, down_done, not_trans}
use Rattle.tw_heap.proofs.sifting.sift_down.Goals as goal

pub loop-place-preserved : goal.loop-place-preserved
loop-place-preserved c =
    let place = c.loop-place.place in
    let child = c.first_child-child.result in
    let es = c.loop-place.entries in
    let kept = c.loop-place.invariant in
    let first = c.first_child-child.ensures in
    let less : is_before (at es child) (at es place) ≡ true = sym c.before-in-loop-place.ensures ∙ c.if-not-before.false in
    let len : length c.exchange.new.entries ≡ length es = c.exchange.auto.entries in
    record {
      len = len ∙ kept.len;
      placed = c.exchange.ensures.placed;
      permutation = IsPermutation-trans c.args.entries.now es c.exchange.new.entries kept.permutation c.exchange.ensures.permutation;
      heap = down_step es c.exchange.new.entries place child first.child first.within len c.exchange.ensures.entries less first.first kept.heap;
    }

pub returns-then-not-before-clause-heap : goal.returns-then-not-before-clause-heap
returns-then-not-before-clause-heap c =
    let place = c.loop-place.place in
    let child = c.first_child-child.result in
    let es = c.loop-place.entries in
    let first = c.first_child-child.ensures in
    down_done es place
    (λ k is inside. not_trans (at es place) (at es child) (at es k) (first.first k is inside) (sym c.before-in-loop-place.ensures ∙ c.if-not-before.true))
    c.loop-place.invariant.heap
