use Rattle.std.proofs.Common.{◌≡◌, ◌≢◌, ℕ, ◌<◌, Some, ap, sym, subst, ◌∙◌, length, get_or}
use Rattle.std.proofs.lemmas.List.{get_or_default}
use Rattle.tw_heap.specs.declared.entries.Entry.{Entry}
use Rattle.tw_heap.specs.Heap.{at, no_entry}
use Rattle.tw_heap.specs.Entries.{entry_of}
use Rattle.tw_heap.proofs.EntriesRise.{placed-distinct}
use Rattle.tw_heap.proofs.Found.{placed_entry, lacks}
use Rattle.tw_heap.proofs.heap.EventHeap.find.Goals as goal

pub returns-in-Some-clause-there : goal.returns-in-Some-clause-there
returns-in-Some-clause-there c =
    let es = c.self.inside.entries.items in
    let place = c.in-Some.place in
    let within : place < length es = rw c.as_slice-entries.ensures.value at c.in-Some.ensures.within in
    let key : (at es place).key ≡ c.args.key.now = rw c.as_slice-entries.ensures.value at c.in-Some.ensures.there in
    let here : get_or c.as_slice-entries.result.now place c.index-entries-place.result ≡ at es place =
    ap (λ l. get_or l place c.index-entries-place.result) c.as_slice-entries.ensures.value ∙ get_or_default es place c.index-entries-place.result no_entry within in
    let stands : entry_of (at es place).index c.args.self.now.entries ≡ Some (at es place) =
    rw (← c.self.view_is) (placed_entry es (placed-distinct es c.self.inside.places.items c.self.invariant.placed) place within) in
    let keyed : Some (at es place) ≡ Some (record { key = c.args.key.now; index = (at es place).index }) = ap (λ k. Some (record { key = k; index = (at es place).index })) key in
    subst (λ (x : Entry). entry_of x.index c.args.self.now.entries ≡ Some (record { key = c.args.key.now; index = x.index })) (sym here) (stands ∙ keyed)

pub returns-in-None-clause-none : goal.returns-in-None-clause-none
returns-in-None-clause-none c =
    let es = c.self.inside.entries.items in
    let none : (k : ℕ) → k < length es → (at es k).key ≢ c.args.key.now = rw c.as_slice-entries.ensures.value at c.in-None.ensures.none in
    rw (← c.self.view_is) (lacks c.args.key.now es none)
