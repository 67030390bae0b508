-- The entries of a heap rise, and no index comes twice.
use Rattle.std.proofs.Common.{◌≡◌, ◌≢◌, ℕ, suc, ◌+◌, ◌<◌, Bool, true, false, List, [], ◌∷◌, length, get_or, None, refl, sym, ap, subst, arith}
use Rattle.tw_heap.specs.declared.entries.Entry.{Entry}
use Rattle.tw_heap.specs.Order.{insert_by, sort_by}
use Rattle.tw_heap.specs.Entries.{is_before, entry_of, LeadsTo, IsRising, AreDistinct, AreBelow}
use Rattle.tw_heap.specs.Heap.{at, IsPlaced}
use Rattle.tw_heap.proofs.EntryOrder.{entries_ordered}
use Rattle.tw_heap.proofs.EntriesByIndex.{insert-past, insert-here, vacant-first, vacant-behind, distinct-insert, below-insert}
use Rattle.tw_heap.proofs.HeapChanges.{none_has, none_entry, none_sorted, none_of_entry}

leads-insert : (y e : Entry) (es : List Entry) → is_before y e ≡ true → LeadsTo y es → LeadsTo y (insert_by is_before e es)
leads-insert y e [] before leads = before
leads-insert y e (z ∷ es) before leads = go (is_before z e) refl
  where
    go : (b : Bool) → is_before z e ≡ b → LeadsTo y (insert_by is_before e (z ∷ es))
    go true is = subst (λ l. LeadsTo y l) (sym (insert-past e z es is)) leads
    go false is = subst (λ l. LeadsTo y l) (sym (insert-here e z es is)) before

-- of two entries with different indices one is before the other
one_before : (e y : Entry) → y.index ≢ e.index → is_before y e ≡ false → is_before e y ≡ true
one_before e y differs later = go (is_before e y) refl
  where
    go : (b : Bool) → is_before e y ≡ b → is_before e y ≡ true
    go true is = is
    go false is = absurd (differs (ap (λ x. x.index) (entries_ordered.connected y e later is)))

rising-insert : (e : Entry) (es : List Entry) → entry_of e.index es ≡ None → IsRising es → IsRising (insert_by is_before e es)
rising-insert e [] vacant rising = (tt, tt)
rising-insert e (y ∷ ys) vacant rising = go (rising-insert e ys (vacant-behind e.index y ys vacant) rising.1) (is_before y e) refl
  where
    go : IsRising (insert_by is_before e ys) → (b : Bool) → is_before y e ≡ b → IsRising (insert_by is_before e (y ∷ ys))
    go rest true is = subst (λ l. IsRising l) (sym (insert-past e y ys is)) (leads-insert y e ys is rising.0, rest)
    go rest false is = subst (λ l. IsRising l) (sym (insert-here e y ys is)) (one_before e y (vacant-first e.index y ys vacant) is, rising)

pub vacant-sorted : (index : ℕ) (es : List Entry) → entry_of index es ≡ None → entry_of index (sort_by is_before es) ≡ None
vacant-sorted index es vacant = none_entry index (sort_by is_before es) (none_sorted index es (none_of_entry index es vacant))

pub distinct-sorted : (es : List Entry) → AreDistinct es → AreDistinct (sort_by is_before es)
distinct-sorted [] distinct = tt
distinct-sorted (e ∷ es) distinct = distinct-insert e (sort_by is_before es) (vacant-sorted e.index es distinct.0) (distinct-sorted es distinct.1)

pub rising-sorted : (es : List Entry) → AreDistinct es → IsRising (sort_by is_before es)
rising-sorted [] distinct = tt
rising-sorted (e ∷ es) distinct = rising-insert e (sort_by is_before es) (vacant-sorted e.index es distinct.0) (rising-sorted es distinct.1)

pub below-sorted : (es : List Entry) (top : ℕ) → AreBelow es top → AreBelow (sort_by is_before es) top
below-sorted [] top below = tt
below-sorted (e ∷ es) top below = below-insert e (sort_by is_before es) top below.0 (below-sorted es top below.1)

-- ## By the places that are kept

distinct_from : (es : List Entry) (n : ℕ) (places : List ℕ) → ((k : ℕ) → k < length es → get_or places (at es k).index 0 ≡ n + k) → AreDistinct es
distinct_from [] n places kept = tt
distinct_from (e ∷ es) n places kept = (
  none_entry e.index es (none_has e.index es (λ k inside same.
      omega (arith, kept 0 (omega arith), kept (suc k) (omega (arith, inside)), ap (λ i. get_or places i 0) same))),
  distinct_from es (suc n) places (λ k inside. omega (arith, kept (suc k) (omega (arith, inside)))),
)

pub placed-distinct : (es : List Entry) (places : List ℕ) → IsPlaced es places → AreDistinct es
placed-distinct es places placed = distinct_from es 0 places (λ k inside. omega (arith, (placed k inside).1))

pub placed-below : (es : List Entry) (top : ℕ) → ((k : ℕ) → k < length es → (at es k).index < top) → AreBelow es top
placed-below [] top inside = tt
placed-below (e ∷ es) top inside = (inside 0 (omega arith), placed-below es top (λ k within. inside (suc k) (omega (arith, within))))
