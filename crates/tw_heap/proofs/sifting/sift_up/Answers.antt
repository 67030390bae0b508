use Rattle.std.proofs.Common.{◌≡◌, ◌-◌, ◌/◌, length, true, arith, sym, ◌∙◌}
use Rattle.std.proofs.lemmas.List.Sorted.{IsPermutation-trans}
use Rattle.tw_heap.specs.Entries.{is_before}
use Rattle.tw_heap.specs.Heap.{at, IsChild}
use Rattle.tw_heap.proofs.HeapMoves.{up_step, up_done, parent_of}
use Rattle.tw_heap.proofs.sifting.sift_up.Goals as goal

pub loop-place-preserved : goal.loop-place-preserved
loop-place-preserved c =
    let place = c.loop-place.place in
    let parent = (place - 1) / 2 in
    let es = c.loop-place.entries in
    let kept = c.loop-place.invariant in
    let child : IsChild parent place = parent_of place (omega arith) in
    let less : is_before (at es place) (at es parent) ≡ true = sym c.before-in-loop-place.ensures ∙ c.if-not-before.false in
    let len : length c.exchange.new.entries ≡ length es = c.exchange.auto.entries in
    record {
      inside = omega (arith, kept.inside);
      len = len ∙ kept.len;
      placed = c.exchange.ensures.placed;
      permutation = IsPermutation-trans c.args.entries.now es c.exchange.new.entries kept.permutation c.exchange.ensures.permutation;
      heap = up_step es c.exchange.new.entries place parent child kept.inside len c.exchange.ensures.entries less kept.heap;
    }

pub returns-then-not-before-clause-heap : goal.returns-then-not-before-clause-heap
returns-then-not-before-clause-heap c =
    let place = c.loop-place.place in
    let parent = (place - 1) / 2 in
    up_done c.loop-place.entries place parent (parent_of place (omega arith)) (sym c.before-in-loop-place.ensures ∙ c.if-not-before.true) c.loop-place.invariant.heap
