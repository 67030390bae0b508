use Rattle.std.proofs.Common.{◌≡◌, IfSome, Some, sym, ap, subst, ◌∙◌, slice_get}
use Rattle.tw_heap.specs.Entries.{entry_of}
use Rattle.tw_heap.proofs.EntriesByIndex.{first_of-there}
use Rattle.tw_heap.proofs.HeapChanges.{first_is, first_of-get}
use Rattle.tw_heap.proofs.heap.EventHeap.first.Goals as goal

pub returns-clause-value : goal.returns-clause-value
returns-clause-value c =
    let read = c.copied.ensures ∙ c.first.ensures.value ∙ ap (λ es. slice_get es 0) c.deref.ensures.value ∙ first_of-get c.self.inside.entries.items in
    rw (← c.self.view_is, first_is c.self.inside.entries.items c.self.invariant.heap) read

pub returns-clause-there : goal.returns-clause-there
returns-clause-there c =
    subst (λ o. IfSome o (λ e. entry_of e.index c.args.self.now.entries ≡ Some e)) (sym (returns-clause-value c)) (first_of-there c.args.self.now.entries)
