use Rattle.std.proofs.Common.{◌≡◌, ◌+◌, ◌-◌, length, set, arith, sym, ap, ◌∙◌}
use Rattle.tw_heap.specs.declared.entries.Entry.{Entry}
use Rattle.tw_heap.specs.Entries.{entry_of}
use Rattle.tw_heap.proofs.EntriesByIndex.{entry_of-insert, entry_of-insert_other}
use Rattle.tw_heap.proofs.HeapChanges.{whole, coming}
use Rattle.tw_heap.proofs.heap.EventHeap.insert.Goals as goal
use Rattle.tw_heap.proofs.heap.EventHeap.insert.Goals.{Start, After-as_mut_slice-2}

pub sift_up-requires-clause-placed : goal.sift_up-requires-clause-placed
sift_up-requires-clause-placed c =
    let e : Entry = record { key = c.args.key; index = c.args.index } in
    let vacant = rw (← c.self.view_is) at c.requires.vacant in
    let inside = rw (← c.self.view_is) at c.requires.index in
    let now = coming c.self.inside.entries.items c.self.inside.places.items e c.self.invariant inside vacant in
    let n : c.len-place.result ≡ length c.self.inside.entries.items = omega (arith, c.len-place.ensures, c.self.inside.entries.ok.0) in
    rw (c.as_mut_slice.ensures.value, c.push_reserved.ensures.items, c.as_mut_slice-2.ensures.value, n) now.placed_now

pub sift_up-requires-clause-heap : goal.sift_up-requires-clause-heap
sift_up-requires-clause-heap c =
    let e : Entry = record { key = c.args.key; index = c.args.index } in
    let vacant = rw (← c.self.view_is) at c.requires.vacant in
    let inside = rw (← c.self.view_is) at c.requires.index in
    let now = coming c.self.inside.entries.items c.self.inside.places.items e c.self.invariant inside vacant in
    let n : c.len-place.result ≡ length c.self.inside.entries.items = omega (arith, c.len-place.ensures, c.self.inside.entries.ok.0) in
    rw (c.as_mut_slice.ensures.value, c.push_reserved.ensures.items, n) now.above

pub invariant_of-self : goal.invariant_of-self
invariant_of-self c =
    let entries = whole c.push_reserved.new.self.len c.sift_up.new.entries c.push_reserved.new.self.items (omega (arith, c.sift_up.auto.entries, c.as_mut_slice.ensures.len)) in
    let places = whole c.self.inside.places.len c.sift_up.new.places (set c.self.inside.places.items c.args.index c.len-place.result) (omega (arith, c.sift_up.auto.places, c.as_mut_slice-2.ensures.len)) in
    rw (entries, places) (record { placed = c.sift_up.ensures.placed; heap = c.sift_up.ensures.heap })

pub returns-clause-entries : goal.returns-clause-entries
returns-clause-entries c =
    let e : Entry = record { key = c.args.key; index = c.args.index } in
    let vacant = rw (← c.self.view_is) at c.requires.vacant in
    let inside = rw (← c.self.view_is) at c.requires.index in
    let now = coming c.self.inside.entries.items c.self.inside.places.items e c.self.invariant inside vacant in
    let entries = whole c.push_reserved.new.self.len c.sift_up.new.entries c.push_reserved.new.self.items (omega (arith, c.sift_up.auto.entries, c.as_mut_slice.ensures.len)) in
    let moved = rw (c.as_mut_slice.ensures.value, c.push_reserved.ensures.items) at c.sift_up.ensures.permutation in
    rw (entries, ← c.self.view_is) (now.order c.sift_up.new.entries moved)

pub returns-clause-there : goal.returns-clause-there
returns-clause-there c =
    let e : Entry = record { key = c.args.key; index = c.args.index } in
    ap (entry_of e.index) (returns-clause-entries c) ∙ entry_of-insert e c.args.self.now.entries c.requires.vacant

pub returns-clause-others : goal.returns-clause-others
returns-clause-others c = λ other differs.
    let e : Entry = record { key = c.args.key; index = c.args.index } in
    ap (entry_of other) (returns-clause-entries c) ∙ entry_of-insert_other other e c.args.self.now.entries (λ same. differs (sym same))

pub returns-clause-top : goal.returns-clause-top
returns-clause-top c =
    let places = whole c.self.inside.places.len c.sift_up.new.places (set c.self.inside.places.items c.args.index c.len-place.result) (omega (arith, c.sift_up.auto.places, c.as_mut_slice-2.ensures.len)) in
    ap length places ∙ omega (arith, c.sift_up.auto.places, c.as_mut_slice-2.ensures.len, c.self.inside.places.ok.0, ap (λ h. h.top) c.self.view_is)

pub returns-clause-room : goal.returns-clause-room
returns-clause-room c =
    let entries = whole c.push_reserved.new.self.len c.sift_up.new.entries c.push_reserved.new.self.items (omega (arith, c.sift_up.auto.entries, c.as_mut_slice.ensures.len)) in
    ap (λ l. c.push_reserved.new.self.cap - length l + 1) entries
    ∙ omega (arith, c.sift_up.auto.entries, c.as_mut_slice.ensures.len, c.push_reserved.ensures.len, c.push_reserved.ensures.capacity, c.self.inside.entries.ok.0, ap (λ h. h.room) c.self.view_is, c.requires.room)
