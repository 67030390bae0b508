-- How a heap's entries and places change, and what its list in order makes of it.
use Rattle.std.proofs.Common.{◌≡◌, ◌≢◌, ◌⊎◌, ℕ, zero, suc, ◌+◌, ◌-◌, ◌/◌, ◌<◌, ◌≤◌, Bool, true, false, List, [], ◌∷◌, ◌++◌, length, get_or, set, take, drop, Some, None, is_some, cond, refl, sym, ap, subst, ◌∙◌, inl, inr, arith, length-append, length-take, slice_get}
use Rattle.std.specs.List.{SwappedAt}
use Rattle.std.specs.List.Sorted.{IsPermutation}
use Rattle.std.proofs.lemmas.Bool.{cases_eq, eq-eqb, ne_eqb}
use Rattle.std.proofs.lemmas.List.{get_or-set_same, get_or-set_other, length-set, take_more, take_all, take-append-le, get_or-take, get_or_default}
use Rattle.tw_heap.specs.declared.entries.Entry.{Entry}
use Rattle.tw_heap.specs.Order.{insert_by, sort_by}
use Rattle.tw_heap.specs.Entries.{is_before, entry_of, without, first_of}
use Rattle.tw_heap.specs.Heap.{no_entry, at, IsChild, InOrder, IsHeap, IsHeapAbove, IsHeapBelow, IsHeapAround, IsPlaced, IsKept}
use Rattle.tw_heap.proofs.EntryOrder.{entries_ordered}
use Rattle.tw_heap.proofs.RisingLists.{sorted_permutation, sorted_push, sorted_least, IsLeast}
use Rattle.tw_heap.proofs.HeapMoves.{child_above, parent_of, not_trans, not_itself, not_less, one_parent}

pub whole : {X : Type 0} (n : ℕ) (xs ys : List X) → length xs ≡ n → take n (xs ++ drop (length xs) ys) ≡ xs
whole n xs ys len = take-append-le n xs (drop (length xs) ys) (omega (arith, len)) ∙ take_all n xs (omega (arith, len))

at_front : (es : List Entry) (e : Entry) (k : ℕ) → k < length es → at (es ++ e ∷ []) k ≡ at es k
at_front [] e k inside = absurd (omega (arith, inside))
at_front (x ∷ es) e zero inside = refl
at_front (x ∷ es) e (suc k) inside = at_front es e k (omega (arith, inside))

at_end : (es : List Entry) (e : Entry) → at (es ++ e ∷ []) (length es) ≡ e
at_end [] e = refl
at_end (x ∷ es) e = at_end es e

-- ## Indices

-- no entry has this index
abbrev pub NoneHas : ℕ → List Entry → Type 0
NoneHas index [] = Unit {0}
NoneHas index (e ∷ es) = (e.index ≢ index) × NoneHas index es

pub none_has : (index : ℕ) (es : List Entry) → ((k : ℕ) → k < length es → (at es k).index ≢ index) → NoneHas index es
none_has index [] none = tt
none_has index (e ∷ es) none = (none 0 (omega arith), none_has index es (λ k inside. none (suc k) (omega (arith, inside))))

has_or_not : (index : ℕ) (es : List Entry) → ((k : ℕ) × (k < length es) × ((at es k).index ≡ index)) ⊎ NoneHas index es
has_or_not index [] = inr tt
has_or_not index (e ∷ es) =
    elim (cases_eq e.index index) [
      | inl same ↦ inl (0, omega arith, same)
      | inr differs ↦ elim (has_or_not index es) [
        | inl found ↦ inl (suc found.0, omega (arith, found.1), found.2)
        | inr none ↦ inr (differs, none)
      ]
    ]

none_placed : (index : ℕ) (e : Entry) (l : List Entry) → e.index ≢ index → NoneHas index l → NoneHas index (insert_by is_before e l)
none_placed index e [] differs none = (differs, tt)
none_placed index e (x ∷ l) differs none = go (none_placed index e l differs none.1) (is_before x e) refl
  where
    go : NoneHas index (insert_by is_before e l) → (b : Bool) → is_before x e ≡ b → NoneHas index (insert_by is_before e (x ∷ l))
    go rest true is = subst (λ t. NoneHas index (cond t (x ∷ insert_by is_before e l) (e ∷ x ∷ l))) (sym is) (none.0, rest)
    go rest false is = subst (λ t. NoneHas index (cond t (x ∷ insert_by is_before e l) (e ∷ x ∷ l))) (sym is) (differs, none)

pub none_sorted : (index : ℕ) (es : List Entry) → NoneHas index es → NoneHas index (sort_by is_before es)
none_sorted index [] none = tt
none_sorted index (e ∷ es) none = none_placed index e (sort_by is_before es) none.0 (none_sorted index es none.1)

pub none_entry : (index : ℕ) (l : List Entry) → NoneHas index l → entry_of index l ≡ None
none_entry index [] none = refl
none_entry index (e ∷ l) none = ap (λ t. cond t (Some e) (entry_of index l)) (ne_eqb e.index index none.0) ∙ none_entry index l none.1

pub none_of_entry : (index : ℕ) (l : List Entry) → entry_of index l ≡ None → NoneHas index l
none_of_entry index [] none = tt
none_of_entry index (e ∷ l) none =
    elim (cases_eq e.index index) [
      | inl same ↦ let some = ap (λ t. cond t (Some e) (entry_of index l)) (sym (eq-eqb e.index index same)) ∙ none in absurd (cc)
      | inr differs ↦ (differs, none_of_entry index l (ap (λ t. cond t (Some e) (entry_of index l)) (sym (ne_eqb e.index index differs)) ∙ none))
    ]

none_placed_back : (index : ℕ) (e : Entry) (l : List Entry) → NoneHas index (insert_by is_before e l) → (e.index ≢ index) × NoneHas index l
none_placed_back index e [] none = (none.0, tt)
none_placed_back index e (x ∷ l) none = go (λ n. none_placed_back index e l n) (is_before x e) refl
  where
    go : (NoneHas index (insert_by is_before e l) → (e.index ≢ index) × NoneHas index l) → (b : Bool) → is_before x e ≡ b → (e.index ≢ index) × ((x.index ≢ index) × NoneHas index l)
    go rest true is =
        let parts : (x.index ≢ index) × NoneHas index (insert_by is_before e l) = subst (λ t. NoneHas index (cond t (x ∷ insert_by is_before e l) (e ∷ x ∷ l))) is none in
        let later = rest parts.1 in
        (later.0, (parts.0, later.1))
    go rest false is = subst (λ t. NoneHas index (cond t (x ∷ insert_by is_before e l) (e ∷ x ∷ l))) is none

none_sorted_back : (index : ℕ) (es : List Entry) → NoneHas index (sort_by is_before es) → NoneHas index es
none_sorted_back index [] none = tt
none_sorted_back index (e ∷ es) none =
    let parts = none_placed_back index e (sort_by is_before es) none in
    (parts.0, none_sorted_back index es parts.1)

none_at : (index : ℕ) (es : List Entry) (k : ℕ) → NoneHas index es → k < length es → (at es k).index ≢ index
none_at index [] k none inside = absurd (omega (arith, inside))
none_at index (e ∷ es) zero none inside = none.0
none_at index (e ∷ es) (suc k) none inside = none_at index es k none.1 (omega (arith, inside))

without_placed : (index : ℕ) (e : Entry) (l : List Entry) → e.index ≡ index → NoneHas index l → without index (insert_by is_before e l) ≡ l
without_placed index e [] same none = ap (λ t. cond t [] (e ∷ [])) (eq-eqb e.index index same)
without_placed index e (x ∷ l) same none = go (without_placed index e l same none.1) (is_before x e) refl
  where
    go : without index (insert_by is_before e l) ≡ l → (b : Bool) → is_before x e ≡ b → without index (insert_by is_before e (x ∷ l)) ≡ x ∷ l
    go rest true is =
        ap (λ t. without index (cond t (x ∷ insert_by is_before e l) (e ∷ x ∷ l))) is
        ∙ ap (λ t. cond t (insert_by is_before e l) (x ∷ without index (insert_by is_before e l))) (ne_eqb x.index index none.0)
        ∙ ap (λ xs. x ∷ xs) rest
    go rest false is =
        ap (λ t. without index (cond t (x ∷ insert_by is_before e l) (e ∷ x ∷ l))) is
        ∙ ap (λ t. cond t (x ∷ l) (e ∷ without index (x ∷ l))) (eq-eqb e.index index same)

-- ## An entry comes in

pub record Coming (es : List Entry) (places : List ℕ) (e : Entry) : Type 0 where
  pub placed_now : IsPlaced (es ++ e ∷ []) (set places e.index (length es))
  pub above : IsHeapAbove (es ++ e ∷ []) (length es)
  pub order : (fs : List Entry) → IsPermutation (es ++ e ∷ []) fs → sort_by is_before fs ≡ insert_by is_before e (sort_by is_before es)

pub coming : (es : List Entry) (places : List ℕ) (e : Entry) → IsKept es places → e.index < length places → entry_of e.index (sort_by is_before es) ≡ None → Coming es places e
coming es places e kept inside vacant =
    let none = none_sorted_back e.index es (none_of_entry e.index (sort_by is_before es) vacant) in
    let n = length es in
    let more = length-append es (e ∷ []) in
    record {
      placed_now = λ k within.
          elim (cases_eq k n) [
            | inl same ↦
                let read : at (es ++ e ∷ []) k ≡ e = ap (at (es ++ e ∷ [])) same ∙ at_end es e in
                subst (λ x. (x.index < length (set places e.index n)) × (get_or (set places e.index n) x.index 0 ≡ k)) (sym read)
                (omega (arith, length-set places e.index n, inside), get_or-set_same places e.index n 0 inside ∙ sym same)
            | inr differs ↦
                let front : k < n = omega (arith, within, more) in
                let was = kept.placed k front in
                subst (λ x. (x.index < length (set places e.index n)) × (get_or (set places e.index n) x.index 0 ≡ k)) (sym (at_front es e k front))
                (omega (arith, length-set places e.index n, was.0), get_or-set_other places e.index (at es k).index n 0 (none_at e.index es k none front) ∙ was.1)
          ];
      above = record {
        others = λ p c is within differs.
            let up = child_above p c is in
            let front : c < n = omega (arith, within, more) in
            ap (λ x. is_before x (at (es ++ e ∷ []) p)) (at_front es e c front)
            ∙ ap (λ x. is_before (at es c) x) (at_front es e p (omega arith))
            ∙ kept.heap p c is front;
        around = λ p c is_p is_c within. let up = child_above n c is_c in absurd (omega (arith, within, more));
      };
      order = λ fs same. sorted_permutation is_before entries_ordered (es ++ e ∷ []) fs same ∙ sorted_push is_before entries_ordered es e;
    }

-- ## An entry goes

pub record Leaving (es : List Entry) (places : List ℕ) (index : ℕ) : Type 0 where
  pub inside : index < length places
  pub within : get_or places index 0 < length es
  pub is : (at es (get_or places index 0)).index ≡ index

pub leaving : (es : List Entry) (places : List ℕ) (index : ℕ) → IsKept es places → is_some (entry_of index (sort_by is_before es)) ≡ true → Leaving es places index
leaving es places index kept live =
    elim (has_or_not index es) [
      | inl found ↦
          let was = kept.placed found.0 found.1 in
          let place : get_or places index 0 ≡ found.0 = ap (λ i. get_or places i 0) (sym found.2) ∙ was.1 in
          record {
            inside = omega (arith, was.0, found.2);
            within = omega (arith, place, found.1);
            is = ap (λ k. (at es k).index) place ∙ found.2;
          }
      | inr none ↦ let never = ap is_some (sym (none_entry index (sort_by is_before es) (none_sorted index es none))) ∙ live in absurd (cc)
    ]

-- the entry at `place` and the last one have changed places, and the last is gone
module _ (es now : List Entry) (places places_now : List ℕ) (index place last : ℕ) (kept : IsKept es places) (there : Leaving es places index) (place_is : place ≡ get_or places index 0) (last_is : last + 1 ≡ length es) (len : length now ≡ length es) (swapped : SwappedAt es now place last) (permutation : IsPermutation es now) (placed_now : IsPlaced now places_now) where
  rest : List Entry
  rest = take last now

  rest_len : length rest ≡ last
  unfolding rest
  rest_len = length-take last now ∙ (omega (arith, len, last_is))

  rest_at : (k : ℕ) → k < last → at rest k ≡ at now k
  unfolding rest
  rest_at k inside = get_or-take last now k no_entry inside

  now_is : now ≡ rest ++ at now last ∷ []
  unfolding rest
  now_is = sym (take_all (last + 1) now (omega (arith, len, last_is))) ∙ take_more now last no_entry (omega (arith, len, last_is))

  gone_index : (at now last).index ≡ index
  gone_index = ap (λ e. e.index) (swapped.1 no_entry) ∙ ap (λ k. (at es k).index) place_is ∙ there.is

  pub rest_placed : IsPlaced (take last now) places_now
  unfolding rest
  rest_placed k inside =
      let front : k < last = omega (arith, inside, rest_len) in
      subst (λ x. (x.index < length places_now) × (get_or places_now x.index 0 ≡ k)) (sym (rest_at k front)) (placed_now k (omega (arith, len, last_is)))

  rest_none : NoneHas index (take last now)
  unfolding rest
  rest_none = none_has index (take last now) (λ k inside same.
      let front : k < last = omega (arith, inside, rest_len) in
      let here = (placed_now k (omega (arith, len, last_is))).1 in
      let end = (placed_now last (omega (arith, len, last_is))).1 in
      let index_k : (at now k).index ≡ index = sym (ap (λ e. e.index) (rest_at k front)) ∙ same in
      let both : get_or places_now (at now k).index 0 ≡ get_or places_now (at now last).index 0 = ap (λ i. get_or places_now i 0) (index_k ∙ sym gone_index) in
      omega (arith, here, end, both, front))

  pub rest_order : (fs : List Entry) → IsPermutation (take last now) fs → sort_by is_before fs ≡ without index (sort_by is_before es)
  unfolding rest
  rest_order fs same =
      let all : sort_by is_before es ≡ insert_by is_before (at now last) (sort_by is_before (take last now)) =
      sym (sorted_permutation is_before entries_ordered es now permutation) ∙ ap (sort_by is_before) now_is ∙ sorted_push is_before entries_ordered (take last now) (at now last) in
      sorted_permutation is_before entries_ordered (take last now) fs same
      ∙ sym (without_placed index (at now last) (sort_by is_before (take last now)) gone_index (none_sorted index (take last now) rest_none))
      ∙ ap (without index) (sym all)

  pub rest_vacant : (fs : List Entry) → IsPermutation (take last now) fs → entry_of index (sort_by is_before fs) ≡ None
  rest_vacant fs same =
      ap (entry_of index) (sorted_permutation is_before entries_ordered (take last now) fs same)
      ∙ none_entry index (sort_by is_before (take last now)) (none_sorted index (take last now) rest_none)

  kept_at : (k : ℕ) → k < last → k ≢ place → at rest k ≡ at es k
  kept_at k inside differs = rest_at k inside ∙ swapped.2 k no_entry differs (λ e. omega arith)

  pub rest_around : place < last → IsHeapAround (take last now) place
  unfolding rest
  rest_around inside =
      record {
        others = λ p c is within not_c not_p.
            let up = child_above p c is in
            let front : c < last = omega (arith, within, rest_len) in
            ap (λ x. is_before x (at rest p)) (kept_at c front not_c) ∙ ap (λ x. is_before (at es c) x) (kept_at p (omega arith) not_p) ∙ kept.heap p c is (omega arith);
        around = λ p c is_p is_c within.
            let up = child_above p place is_p in
            let down = child_above place c is_c in
            let front : c < last = omega (arith, within, rest_len) in
            ap (λ x. is_before x (at rest p)) (kept_at c front (λ e. omega arith)) ∙ ap (λ x. is_before (at es c) x) (kept_at p (omega arith) (λ e. omega arith))
            ∙ not_trans (at es p) (at es place) (at es c) (kept.heap place c is_c (omega arith)) (kept.heap p place is_p (omega arith));
      }

  pub rest_heap : last ≤ place → IsHeap (take last now)
  unfolding rest
  rest_heap past p c is within =
      let up = child_above p c is in
      let front : c < last = omega (arith, within, rest_len) in
      ap (λ x. is_before x (at rest p)) (kept_at c front (λ e. omega arith)) ∙ ap (λ x. is_before (at es c) x) (kept_at p (omega arith) (λ e. omega arith)) ∙ kept.heap p c is (omega arith)

-- ## The first entry

root_least : (es : List Entry) (fuel k : ℕ) → IsHeap es → k ≤ fuel → k < length es → is_before (at es k) (at es 0) ≡ false
root_least es fuel zero heap small inside = not_itself (at es 0)
root_least es zero (suc k) heap small inside = absurd (omega arith)
root_least es (suc fuel) (suc k) heap small inside =
    let p = (suc k - 1) / 2 in
    let child : IsChild p (suc k) = parent_of (suc k) (omega arith) in
    let up = child_above p (suc k) child in
    not_trans (at es 0) (at es p) (at es (suc k)) (heap p (suc k) child inside) (root_least es fuel p heap (omega arith) (omega arith))

least_list : (x : Entry) (l : List Entry) → ((k : ℕ) → k < length l → is_before (at l k) x ≡ false) → IsLeast is_before entries_ordered x l
least_list x [] all = tt
least_list x (y ∷ l) all = (all 0 (omega arith), least_list x l (λ k inside. all (suc k) (omega (arith, inside))))

pub first_is : (es : List Entry) → IsHeap es → first_of (sort_by is_before es) ≡ first_of es
first_is [] heap = refl
first_is (e ∷ es) heap =
    ap first_of (sorted_least is_before entries_ordered e es (least_list e es (λ k inside. root_least (e ∷ es) (suc k) (suc k) heap (omega arith) (omega (arith, inside)))))

-- ## Up or down

pub goes_up : (es : List Entry) (k p : ℕ) → IsChild p k → is_before (at es k) (at es p) ≡ true → IsHeapAround es k → IsHeapAbove es k
goes_up es k p child less heap =
    record {
      others = λ q c is within differs.
          elim (cases_eq q k) [
            | inl same ↦
                let below : IsChild k c = subst (λ j. IsChild j c) same is in
                subst (λ j. InOrder es j c) (sym same) (not_less (at es k) (at es p) (at es c) less (heap.around p c child below within))
            | inr other ↦ heap.others q c is within differs other
          ];
      around = heap.around;
    }

pub goes_down : (es : List Entry) (k : ℕ) → ((p : ℕ) → IsChild p k → InOrder es p k) → IsHeapAround es k → IsHeapBelow es k
goes_down es k order heap =
    record {
      others = λ q c is within differs.
          elim (cases_eq c k) [
            | inl same ↦ subst (λ j. InOrder es q j) (sym same) (order q (subst (λ j. IsChild q j) same is))
            | inr other ↦ heap.others q c is within other differs
          ];
      around = heap.around;
    }

pub only_parent : (es : List Entry) (k : ℕ) → 0 < k → is_before (at es k) (at es ((k - 1) / 2)) ≡ false → (p : ℕ) → IsChild p k → InOrder es p k
only_parent es k some order p is = subst (λ q. InOrder es q k) (sym (one_parent p ((k - 1) / 2) k is (parent_of k some))) order

pub no_parent : (es : List Entry) (k : ℕ) → k ≤ 0 → (p : ℕ) → IsChild p k → InOrder es p k
no_parent es k top p is = let up = child_above p k is in absurd (omega arith)

pub first_of-get : (es : List Entry) → slice_get es 0 ≡ first_of es
first_of-get [] = refl
first_of-get (e ∷ es) = refl

-- what is left once the entry under `index` is gone
pub record Gone (es popped : List Entry) (places_now : List ℕ) (index place last : ℕ) : Type 0 where
  pub placed_now : IsPlaced popped places_now
  pub order : (fs : List Entry) → IsPermutation popped fs → sort_by is_before fs ≡ without index (sort_by is_before es)
  pub vacant : (fs : List Entry) → IsPermutation popped fs → entry_of index (sort_by is_before fs) ≡ None
  pub around : place < last → IsHeapAround popped place
  pub heap : last ≤ place → IsHeap popped

pub place_of : (es : List Entry) (places : List ℕ) (index place : ℕ) → Leaving es places index → place ≡ get_or places index place → place ≡ get_or places index 0
place_of es places index place there read = read ∙ get_or_default places index place 0 there.inside

pub gone : (es now popped : List Entry) (places places_now : List ℕ) (index place last : ℕ) → IsKept es places → is_some (entry_of index (sort_by is_before es)) ≡ true → place ≡ get_or places index place → last + 1 ≡ length es → length now ≡ length es → SwappedAt es now place last → IsPermutation es now → IsPlaced now places_now → popped ≡ take last now → Gone es popped places_now index place last
gone es now popped places places_now index place last kept live place_is last_is len swapped permutation placed_now popped_is =
    let there = leaving es places index kept live in
    let read = place_of es places index place there place_is in
    let result : Gone es (take last now) places_now index place last = record {
      placed_now = rest_placed es now places places_now index place last kept there read last_is len swapped permutation placed_now;
      order = rest_order es now places places_now index place last kept there read last_is len swapped permutation placed_now;
      vacant = rest_vacant es now places places_now index place last kept there read last_is len swapped permutation placed_now;
      around = rest_around es now places places_now index place last kept there read last_is len swapped permutation placed_now;
      heap = rest_heap es now places places_now index place last kept there read last_is len swapped permutation placed_now;
    } in
    subst (λ p. Gone es p places_now index place last) (sym popped_is) result
