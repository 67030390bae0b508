use Rattle.tw_heap.proofs.EntriesByIndex.{rising-Sorted}
use Rattle.tw_heap.proofs.EntriesRise.{rising-sorted, distinct-sorted, below-sorted, placed-distinct, placed-below}
use Rattle.tw_heap.proofs.heap.EventHeap.entries_law.Goals as goal

pub returns-clause-rising : goal.returns-clause-rising
returns-clause-rising c = rw (← c.self.view_is) (rising-sorted _ (placed-distinct _ _ c.self.invariant.placed))

pub returns-clause-sorted : goal.returns-clause-sorted
returns-clause-sorted c = rw (← c.self.view_is) (rising-Sorted _ (rising-sorted _ (placed-distinct _ _ c.self.invariant.placed)))

pub returns-clause-distinct : goal.returns-clause-distinct
returns-clause-distinct c = rw (← c.self.view_is) (distinct-sorted _ (placed-distinct _ _ c.self.invariant.placed))

pub returns-clause-below : goal.returns-clause-below
returns-clause-below c = rw (← c.self.view_is) (below-sorted _ _ (placed-below _ _ (λ k within. (c.self.invariant.placed k within).0)))
