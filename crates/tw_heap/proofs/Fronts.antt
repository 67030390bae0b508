-- What comes before a stamp: where it lies in a heap, and that it is the front of the list in order.
use Rattle.std.proofs.Common.{◌≡◌, ℕ, suc, zero, ◌+◌, ◌-◌, ◌/◌, ◌<◌, ◌≤◌, Bool, true, false, List, [], ◌∷◌, ◌++◌, length, map, take, filter, nat_lt, cond, refl, sym, ap, ◌∙◌, subst, inl, inr, arith}
use Rattle.std.specs.List.{take_while}
use Rattle.std.proofs.lemmas.Bool.{cases_Bool, cases_lt, lt-ltb, le-ltb, ltb-true, ltb-false, cond-true, cond-false}
use Rattle.std.proofs.lemmas.List.{take_more}
use Rattle.std.proofs.lemmas.List.Elements.{filter-append}
use Rattle.std.proofs.lemmas.List.Sums.{take_while-cons}
use Rattle.tw_msgs.specs.declared.message.Message.{Message}
use Rattle.std.specs.List.Sorted.{IsPermutation, IsSorted}
use Rattle.tw_msgs.specs.Messages.{at_or_before, message_cmp, place, sorted_messages, Sorted}
use Rattle.tw_msgs.proofs.Messages.{sorted_messages-Sorted, sorted_messages-only, stamps_fall, stamps_rise, Sorted-from_IsSorted}
use Rattle.tw_heap.specs.declared.entries.Entry.{Entry}
use Rattle.tw_heap.specs.Order.{sort_by}
use Rattle.tw_heap.specs.Entries.{is_before, message_of}
use Rattle.tw_heap.specs.Heap.{at, no_entry, IsChild, IsHeap}
use Rattle.tw_heap.proofs.EntriesByIndex.{messages-insert}
use Rattle.tw_heap.proofs.EntryOrder.{not_before-at_or_before}
use Rattle.tw_heap.proofs.HeapMoves.{parent_of}

-- whether a message comes before a stamp
abbrev pub early : ℕ → Message → Bool
early s m = nat_lt m.stamp s

early_up : (s : ℕ) (m n : Message) → m.stamp ≤ n.stamp → early s n ≡ true → early s m ≡ true
early_up s m n up is = let l = ltb-true n.stamp s is in lt-ltb m.stamp s (omega arith)

late_up : (s : ℕ) (m n : Message) → m.stamp ≤ n.stamp → early s m ≡ false → early s n ≡ false
late_up s m n up is = let l = ltb-false m.stamp s is in le-ltb n.stamp s (omega arith)

-- ---- the front of the messages in order

while_here : (s : ℕ) (m : Message) (ms : List Message) → early s m ≡ true → take_while (early s) (m ∷ ms) ≡ m ∷ take_while (early s) ms
while_here s m ms is = take_while-cons (early s) m ms ∙ cond-true (early s m) _ _ is

while_none : (s : ℕ) (m : Message) (ms : List Message) → early s m ≡ false → take_while (early s) (m ∷ ms) ≡ []
while_none s m ms is = take_while-cons (early s) m ms ∙ cond-false (early s m) _ _ is

placed_here : (m n : Message) (ns : List Message) → at_or_before m n ≡ true → place m (n ∷ ns) ≡ m ∷ n ∷ ns
placed_here m n ns is = cond-true (at_or_before m n) _ _ is

placed_past : (m n : Message) (ns : List Message) → at_or_before m n ≡ false → place m (n ∷ ns) ≡ n ∷ place m ns
placed_past m n ns is = cond-false (at_or_before m n) _ _ is

while_place : (s : ℕ) (m : Message) (ms : List Message) → early s m ≡ true → take_while (early s) (place m ms) ≡ place m (take_while (early s) ms)
while_place s m [] is = while_here s m [] is
while_place s m (n ∷ ns) is =
    elim (cases_Bool (at_or_before m n)) [
      | inl here ↦
          ap (take_while (early s)) (placed_here m n ns here) ∙ while_here s m (n ∷ ns) is
          ∙ elim (cases_Bool (early s n)) [
            | inl more ↦ ap (λ l. m ∷ l) (while_here s n ns more) ∙ sym (ap (place m) (while_here s n ns more) ∙ placed_here m n _ here)
            | inr last ↦ ap (λ l. m ∷ l) (while_none s n ns last) ∙ sym (ap (place m) (while_none s n ns last))
          ]
      | inr past ↦
          let more = early_up s n m (stamps_fall m n past) is in
          ap (take_while (early s)) (placed_past m n ns past) ∙ while_here s n (place m ns) more
          ∙ ap (λ l. n ∷ l) (while_place s m ns is)
          ∙ sym (ap (place m) (while_here s n ns more) ∙ placed_past m n _ past)
    ]

while_late : (s : ℕ) (m : Message) (ms : List Message) → early s m ≡ false → take_while (early s) (place m ms) ≡ take_while (early s) ms
while_late s m [] is = while_none s m [] is
while_late s m (n ∷ ns) is =
    elim (cases_Bool (at_or_before m n)) [
      | inl here ↦
          ap (take_while (early s)) (placed_here m n ns here) ∙ while_none s m (n ∷ ns) is
          ∙ sym (while_none s n ns (late_up s m n (stamps_rise m n here) is))
      | inr past ↦
          ap (take_while (early s)) (placed_past m n ns past)
          ∙ elim (cases_Bool (early s n)) [
            | inl more ↦ while_here s n (place m ns) more ∙ ap (λ l. n ∷ l) (while_late s m ns is) ∙ sym (while_here s n ns more)
            | inr last ↦ while_none s n (place m ns) last ∙ sym (while_none s n ns last)
          ]
    ]

-- what is early of a sorted list is its front
front_sorted : (s : ℕ) (ms : List Message) → take_while (early s) (sorted_messages ms) ≡ sorted_messages (filter (early s) ms)
front_sorted s [] = refl
front_sorted s (m ∷ ms) =
    elim (cases_Bool (early s m)) [
      | inl is ↦ while_place s m (sorted_messages ms) is ∙ ap (place m) (front_sorted s ms) ∙ sym (ap sorted_messages (cond-true (early s m) _ _ is))
      | inr late ↦ while_late s m (sorted_messages ms) late ∙ front_sorted s ms ∙ sym (ap sorted_messages (cond-false (early s m) _ _ late))
    ]

messages_sorted : (es : List Entry) → map message_of (sort_by is_before es) ≡ sorted_messages (map message_of es)
messages_sorted [] = refl
messages_sorted (e ∷ es) =
    let rest = messages_sorted es in
    messages-insert e (sort_by is_before es) (subst Sorted (sym rest) (sorted_messages-Sorted (map message_of es))) ∙ ap (place e.key) rest

pub front_of_heap : (s : ℕ) (es : List Entry) → take_while (early s) (map message_of (sort_by is_before es)) ≡ sorted_messages (filter (early s) (map message_of es))
front_of_heap s es = ap (take_while (early s)) (messages_sorted es) ∙ front_sorted s (map message_of es)

-- ---- where it lies

-- what stands below a late entry is late
late_below : (s : ℕ) (es : List Entry) (p c : ℕ) → IsHeap es → IsChild p c → c < length es → early s (at es p).key ≡ false → early s (at es c).key ≡ false
late_below s es p c heap child inside late =
    late_up s (at es p).key (at es c).key (stamps_rise (at es p).key (at es c).key (not_before-at_or_before (at es c) (at es p) (heap p c child inside))) late

-- from a place on all are late, if those before it have no early child there
pub none_behind : (s : ℕ) (es : List Entry) (n end : ℕ) → IsHeap es → 0 < end → end ≤ n → ((k : ℕ) → k < n → early s (at es k).key ≡ true → k + k + 2 < end)
    → (k : ℕ) → n ≤ k → k < length es → early s (at es k).key ≡ false
none_behind s es n end heap begun past ahead k from inside = below (suc k) k (omega arith) from inside
  where
    below : (bound j : ℕ) → j < bound → n ≤ j → j < length es → early s (at es j).key ≡ false
    below zero j small from inside = absurd (omega arith)
    below (suc bound) j small from inside =
        let p = (j - 1) / 2 in
        let child = parent_of j (omega arith) in
        let near : (p < j) × (j ≤ p + p + 2) = (omega arith, omega arith) in
        late_below s es p j heap child inside (elim (cases_lt p n) [
          | inl here ↦ elim (cases_Bool (early s (at es p).key)) [
            | inl is ↦ let more = ahead p here is in absurd (omega (arith, near.1))
            | inr late ↦ late
          ]
          | inr later ↦ below bound p (omega (arith, near.0)) later (omega (arith, near.0))
        ])

pub filter_more : (s : ℕ) (es : List Entry) (k : ℕ) → k < length es → filter (early s) (map message_of (take (k + 1) es)) ≡ filter (early s) (map message_of (take k es)) ++ cond (early s (at es k).key) ((at es k).key ∷ []) []
filter_more s es k inside =
    ap (λ l. filter (early s) (map message_of l)) (take_more es k no_entry inside)
    ∙ ap (filter (early s)) (map_append (take k es) (at es k ∷ []))
    ∙ filter-append (early s) (map message_of (take k es)) ((at es k).key ∷ [])
  where
    map_append : (xs ys : List Entry) → map message_of (xs ++ ys) ≡ map message_of xs ++ map message_of ys
    map_append [] ys = refl
    map_append (x ∷ xs) ys = ap (λ l. message_of x ∷ l) (map_append xs ys)

-- the early ones stand at the first n places
pub filter_all : (s : ℕ) (es : List Entry) (n : ℕ) → ((k : ℕ) → n ≤ k → k < length es → early s (at es k).key ≡ false) → filter (early s) (map message_of (take n es)) ≡ filter (early s) (map message_of es)
filter_all s [] zero none = refl
filter_all s [] (suc n) none = refl
filter_all s (e ∷ es) zero none =
    sym (cond-false (early s e.key) _ _ (none 0 (omega arith) (omega arith)) ∙ sym (filter_all s es zero (λ k from inside. none (suc k) (omega arith) (omega (arith, inside)))))
filter_all s (e ∷ es) (suc n) none =
    ap (λ l. cond (early s e.key) (e.key ∷ l) l) (filter_all s es n (λ k from inside. none (suc k) (omega (arith, from)) (omega (arith, inside))))

-- ---- sorted anew

-- the messages of a heap that come before a stamp, put in order, are the front of the heap's
pub front_is : (s : ℕ) (es : List Entry) (ms : List Message) → IsPermutation (filter (early s) (map message_of es)) ms → IsSorted message_cmp ms → ms ≡ take_while (early s) (map message_of (sort_by is_before es))
front_is s es ms same up =
    sorted_messages-only (filter (early s) (map message_of es)) ms same (Sorted-from_IsSorted ms up) ∙ sym (front_of_heap s es)
