use Rattle.std.proofs.Common.{◌≡◌, ◌+◌, ◌-◌, length-take, ◌++◌, length, take, drop, arith, ap, ◌∙◌}
use Rattle.std.specs.List.{SwappedAt}
use Rattle.std.specs.List.Sorted.{IsPermutation}
use Rattle.std.proofs.lemmas.List.Sorted.{IsPermutation-refl}
use Rattle.tw_heap.specs.declared.entries.Entry.{Entry}
use Rattle.tw_heap.specs.Entries.{entry_of, Events}
use Rattle.tw_heap.proofs.EntriesByIndex.{entry_of-without_other}
use Rattle.tw_heap.proofs.HeapChanges.{whole, leaving, place_of, gone, Gone}
use Rattle.tw_heap.proofs.heap.EventHeap.remove.Goals as goal
use Rattle.tw_heap.proofs.heap.EventHeap.remove.Goals.{After-pop}

-- what is left after `pop`
left : (c : After-pop) → Gone c.self.inside.entries.items c.pop.new.self.items c.exchange.new.places c.args.index c.index-place.result.now (c.len-last.result - 1)
left c =
    let es = c.self.inside.entries.items in
    let now = c.exchange.new.entries in
    let place = c.index-place.result.now in
    let last = c.len-last.result - 1 in
    let live = rw (← c.self.view_is) at c.requires in
    let there = leaving es c.self.inside.places.items c.args.index c.self.invariant live in
    let len : length now ≡ length es = omega (arith, c.exchange.auto.entries, ap (length {A = Entry}) c.as_mut_slice.ensures.value) in
    let n : c.len-last.result ≡ length es = omega (arith, c.len-last.ensures, c.self.inside.entries.ok.0) in
    let cap : c.self.inside.entries.len ≡ length es = omega (arith, c.self.inside.entries.ok.0) in
    let all = whole c.self.inside.entries.len now es (omega (arith, len, cap)) in
    let swapped : SwappedAt es now place last = rw c.as_mut_slice.ensures.value at c.exchange.ensures.entries in
    let permutation : IsPermutation es now = rw c.as_mut_slice.ensures.value at c.exchange.ensures.permutation in
    let count : c.self.inside.entries.len - 1 ≡ last = omega (arith, n, cap) in
    let popped : c.pop.new.self.items ≡ take last now = c.pop.ensures.rest ∙ ap (take (c.self.inside.entries.len - 1)) all ∙ ap (λ k. take k now) count in
    gone es now c.pop.new.self.items c.self.inside.places.items c.exchange.new.places c.args.index place last c.self.invariant live c.index-place.ensures
    (omega (arith, n, there.within)) len swapped permutation c.exchange.ensures.placed popped

places_left : (c : After-pop) → take c.self.inside.places.len (c.exchange.new.places ++ drop (length c.exchange.new.places) c.self.inside.places.items) ≡ c.exchange.new.places
places_left c = whole c.self.inside.places.len c.exchange.new.places c.self.inside.places.items (omega (arith, c.exchange.auto.places, c.as_mut_slice-2.ensures.len))

-- the room grows by one
room_left : (c : After-pop) → c.pop.new.self.cap - length c.pop.new.self.items ≡ c.args.self.now.room + 1
room_left c =
    let es = c.self.inside.entries.items in
    let now = c.exchange.new.entries in
    let live = rw (← c.self.view_is) at c.requires in
    let there = leaving es c.self.inside.places.items c.args.index c.self.invariant live in
    let len : length now ≡ length es = omega (arith, c.exchange.auto.entries, ap (length {A = Entry}) c.as_mut_slice.ensures.value) in
    let cap : c.self.inside.entries.len ≡ length es = omega (arith, c.self.inside.entries.ok.0) in
    let all = whole c.self.inside.entries.len now es (omega (arith, len, cap)) in
    let popped : c.pop.new.self.items ≡ take (c.self.inside.entries.len - 1) now = c.pop.ensures.rest ∙ ap (take (c.self.inside.entries.len - 1)) all in
    let fewer : length c.pop.new.self.items + 1 ≡ length es = omega (arith, ap (length {A = Entry}) popped, length-take (c.self.inside.entries.len - 1) now, there.within, len, cap) in
    let old : c.self.inside.entries.cap - length es ≡ c.args.self.now.room = ap (λ (h : Events). h.room) c.self.view_is in
    omega (arith, fewer, old, c.pop.ensures.capacity, c.self.inside.entries.ok.0, c.self.inside.entries.ok.1)

pub index-place-requires : goal.index-place-requires
index-place-requires c =
    let live = rw (← c.self.view_is) at c.requires in
    let at = leaving c.self.inside.entries.items c.self.inside.places.items c.args.index c.self.invariant live in
    omega (arith, at.inside, c.self.inside.places.ok.0)

pub exchange-requires-clause-first : goal.exchange-requires-clause-first
exchange-requires-clause-first c =
    let live = rw (← c.self.view_is) at c.requires in
    let at = leaving c.self.inside.entries.items c.self.inside.places.items c.args.index c.self.invariant live in
    let read = place_of c.self.inside.entries.items c.self.inside.places.items c.args.index c.index-place.result.now at c.index-place.ensures in
    omega (arith, at.within, read, ap (length {A = Entry}) c.as_mut_slice.ensures.value)

pub settle-requires-clause-placed : goal.settle-requires-clause-placed
settle-requires-clause-placed c =
    let here = (goal.at.settle-requires-clause-placed c).After-pop in
    rw (c.as_mut_slice-then-place-last.ensures.value, c.as_mut_slice-then-place-last-2.ensures.value, places_left here) (left here).placed_now

pub settle-requires-clause-heap : goal.settle-requires-clause-heap
settle-requires-clause-heap c =
    let here = (goal.at.settle-requires-clause-heap c).After-pop in
    rw c.as_mut_slice-then-place-last.ensures.value ((left here).around c.if-place-last.true)

pub invariant_of-self : goal.invariant_of-self
invariant_of-self c =
    let old = take c.self.inside.places.len (c.exchange.new.places ++ drop (length c.exchange.new.places) c.self.inside.places.items) in
    let entries = whole c.pop.new.self.len c.settle.new.entries c.pop.new.self.items (omega (arith, c.settle.auto.entries, c.as_mut_slice-then-place-last.ensures.len)) in
    let places = whole c.self.inside.places.len c.settle.new.places old (omega (arith, c.settle.auto.places, c.as_mut_slice-then-place-last-2.ensures.len)) in
    rw (entries, places) (record { placed = c.settle.ensures.placed; heap = c.settle.ensures.heap })

pub invariant_of-self-else-place-last : goal.invariant_of-self-else-place-last
invariant_of-self-else-place-last c =
    let here = (goal.at.invariant_of-self-else-place-last c).After-pop in
    rw (places_left here) (record { placed = (left here).placed_now; heap = (left here).heap c.if-place-last.false })

pub returns-then-place-last-clause-entries : goal.returns-then-place-last-clause-entries
returns-then-place-last-clause-entries c =
    let here = (goal.at.returns-then-place-last-clause-entries c).After-pop in
    let entries = whole c.pop.new.self.len c.settle.new.entries c.pop.new.self.items (omega (arith, c.settle.auto.entries, c.as_mut_slice-then-place-last.ensures.len)) in
    let moved = rw c.as_mut_slice-then-place-last.ensures.value at c.settle.ensures.permutation in
    rw (entries, ← c.self.view_is) ((left here).order c.settle.new.entries moved)

pub returns-else-place-last-clause-entries : goal.returns-else-place-last-clause-entries
returns-else-place-last-clause-entries c =
    let here = (goal.at.returns-else-place-last-clause-entries c).After-pop in
    rw (← c.self.view_is) ((left here).order c.pop.new.self.items (IsPermutation-refl c.pop.new.self.items))

pub returns-then-place-last-clause-gone : goal.returns-then-place-last-clause-gone
returns-then-place-last-clause-gone c =
    let here = (goal.at.returns-then-place-last-clause-gone c).After-pop in
    let entries = whole c.pop.new.self.len c.settle.new.entries c.pop.new.self.items (omega (arith, c.settle.auto.entries, c.as_mut_slice-then-place-last.ensures.len)) in
    let moved = rw c.as_mut_slice-then-place-last.ensures.value at c.settle.ensures.permutation in
    rw entries ((left here).vacant c.settle.new.entries moved)

pub returns-else-place-last-clause-gone : goal.returns-else-place-last-clause-gone
returns-else-place-last-clause-gone c =
    let here = (goal.at.returns-else-place-last-clause-gone c).After-pop in
    (left here).vacant c.pop.new.self.items (IsPermutation-refl c.pop.new.self.items)

pub returns-then-place-last-clause-others : goal.returns-then-place-last-clause-others
returns-then-place-last-clause-others c = λ other differs.
    ap (entry_of other) (returns-then-place-last-clause-entries c) ∙ entry_of-without_other c.args.index other c.args.self.now.entries differs

pub returns-else-place-last-clause-others : goal.returns-else-place-last-clause-others
returns-else-place-last-clause-others c = λ other differs.
    ap (entry_of other) (returns-else-place-last-clause-entries c) ∙ entry_of-without_other c.args.index other c.args.self.now.entries differs

pub overflow_sub-last : goal.overflow_sub-last
overflow_sub-last c =
    let live = rw (← c.self.view_is) at c.requires in
    let at = leaving c.self.inside.entries.items c.self.inside.places.items c.args.index c.self.invariant live in
    omega (arith, at.within, c.len-last.ensures, c.self.inside.entries.ok.0)

pub exchange-requires-clause-second : goal.exchange-requires-clause-second
exchange-requires-clause-second c =
    let live = rw (← c.self.view_is) at c.requires in
    let at = leaving c.self.inside.entries.items c.self.inside.places.items c.args.index c.self.invariant live in
    omega (arith, at.within, c.len-last.ensures, c.self.inside.entries.ok.0, c.as_mut_slice.ensures.len)

pub returns-then-place-last-clause-room : goal.returns-then-place-last-clause-room
returns-then-place-last-clause-room c =
    let here = (goal.at.returns-then-place-last-clause-room c).After-pop in
    let entries = whole c.pop.new.self.len c.settle.new.entries c.pop.new.self.items (omega (arith, c.settle.auto.entries, c.as_mut_slice-then-place-last.ensures.len)) in
    let len : length c.settle.new.entries ≡ length c.pop.new.self.items = c.settle.auto.entries ∙ ap (length {A = Entry}) c.as_mut_slice-then-place-last.ensures.value in
    rw (entries, len) (room_left here)

pub returns-then-place-last-clause-top : goal.returns-then-place-last-clause-top
returns-then-place-last-clause-top c =
    let old = take c.self.inside.places.len (c.exchange.new.places ++ drop (length c.exchange.new.places) c.self.inside.places.items) in
    let places = whole c.self.inside.places.len c.settle.new.places old (omega (arith, c.settle.auto.places, c.as_mut_slice-then-place-last-2.ensures.len)) in
    rw places (omega (arith, c.settle.auto.places, c.as_mut_slice-then-place-last-2.ensures.len, c.exchange.auto.places, c.as_mut_slice-2.ensures.len, c.self.inside.places.ok.0, ap (λ (h : Events). h.top) c.self.view_is))

pub returns-else-place-last-clause-room : goal.returns-else-place-last-clause-room
returns-else-place-last-clause-room c = room_left (goal.at.returns-else-place-last-clause-room c).After-pop

pub returns-else-place-last-clause-top : goal.returns-else-place-last-clause-top
returns-else-place-last-clause-top c =
    let here = (goal.at.returns-else-place-last-clause-top c).After-pop in
    rw (places_left here) (omega (arith, c.exchange.auto.places, c.as_mut_slice-2.ensures.len, c.self.inside.places.ok.0, ap (λ (h : Events). h.top) c.self.view_is))
