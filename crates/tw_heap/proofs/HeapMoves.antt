-- How entries move up and down a heap.
use Rattle.std.proofs.Common.{◌≡◌, ◌≢◌, ◌⊎◌, ℕ, ◌+◌, ◌-◌, ◌/◌, ◌%◌, ◌<◌, ◌≤◌, true, false, List, length, sym, ap, subst, ◌∙◌, inl, inr, arith}
use Rattle.std.specs.List.{SwappedAt}
use Rattle.std.proofs.lemmas.Bool.{cases_eq, cases_Bool}
use Rattle.tw_heap.specs.declared.entries.Entry.{Entry}
use Rattle.tw_heap.specs.Entries.{is_before}
use Rattle.tw_heap.specs.Heap.{no_entry, at, IsChild, InOrder, IsHeap, IsHeapAbove, IsHeapBelow}
use Rattle.tw_heap.proofs.EntryOrder.{entries_ordered}
use Rattle.tw_heap.proofs.RisingLists.{asymmetric}

-- ## The order of entries, where it does not hold

pub not_back : (x y : Entry) → is_before x y ≡ true → is_before y x ≡ false
not_back x y less = asymmetric is_before entries_ordered x y less

pub not_itself : (x : Entry) → is_before x x ≡ false
not_itself x = entries_ordered.irreflexive x

-- x is before y, and z is not
pub not_less : (x y z : Entry) → is_before x y ≡ true → is_before z y ≡ false → is_before z x ≡ false
not_less x y z less above = go (cases_Bool (is_before z x))
  where
    go : (is_before z x ≡ true) ⊎ (is_before z x ≡ false) → is_before z x ≡ false
    go (inl sooner) = let never = sym (entries_ordered.transitive z x y sooner less) ∙ above in absurd (cc)
    go (inr later) = later

-- z is not before y, nor y before x
pub not_trans : (x y z : Entry) → is_before z y ≡ false → is_before y x ≡ false → is_before z x ≡ false
not_trans x y z first second = go (cases_Bool (is_before y z))
  where
    go : (is_before y z ≡ true) ⊎ (is_before y z ≡ false) → is_before z x ≡ false
    go (inl less) = not_less_left (cases_Bool (is_before z x))
      where
        not_less_left : (is_before z x ≡ true) ⊎ (is_before z x ≡ false) → is_before z x ≡ false
        not_less_left (inl sooner) = let never = sym (entries_ordered.transitive y z x less sooner) ∙ second in absurd (cc)
        not_less_left (inr later) = later
    go (inr not) = subst (λ e. is_before e x ≡ false) (entries_ordered.connected y z not first) second

-- ## Parents and children

pub one_parent : (p q c : ℕ) → IsChild p c → IsChild q c → p ≡ q
one_parent p q c (inl a) (inl b) = omega arith
one_parent p q c (inl a) (inr b) = absurd (omega arith)
one_parent p q c (inr a) (inl b) = absurd (omega arith)
one_parent p q c (inr a) (inr b) = omega arith

pub child_above : (p c : ℕ) → IsChild p c → p < c
child_above p c (inl a) = omega arith
child_above p c (inr a) = omega arith

pub child_cases : (P : ℕ → Type 0) (p c : ℕ) → P (p + p + 1) → P (p + p + 1 + 1) → IsChild p c → P c
child_cases P p c left right (inl is) = subst P (sym is) left
child_cases P p c left right (inr is) = let same : p + p + 1 + 1 ≡ c = omega arith in subst P same right

-- half of one less is the parent
pub parent_of : (c : ℕ) → 0 < c → IsChild ((c - 1) / 2) c
parent_of c some = by_rest (cases_eq ((c - 1) % 2) 0)
  where
    by_rest : ((c - 1) % 2 ≡ 0) ⊎ ((c - 1) % 2 ≢ 0) → IsChild ((c - 1) / 2) c
    by_rest (inl even) = inl (omega arith)
    by_rest (inr odd) = inr (omega arith)

-- two places are in order if what stands there is
ordered_as : (es : List Entry) (p c : ℕ) (x y : Entry) → at es p ≡ x → at es c ≡ y → is_before y x ≡ false → InOrder es p c
ordered_as es p c x y is_x is_y order = ap (λ e. is_before e (at es p)) is_y ∙ ap (λ e. is_before y e) is_x ∙ order

-- ## One step up

module _ (es fs : List Entry) (k p : ℕ) (child : IsChild p k) (within : k < length es) (len : length fs ≡ length es) (swapped : SwappedAt es fs k p) (less : is_before (at es k) (at es p) ≡ true) (heap : IsHeapAbove es k) where
  at_k : at fs k ≡ at es p
  at_k = swapped.0 no_entry

  at_p : at fs p ≡ at es k
  at_p = swapped.1 no_entry

  at_other : (j : ℕ) → j ≢ k → j ≢ p → at fs j ≡ at es j
  at_other j a b = swapped.2 j no_entry a b

  up_others : (q c : ℕ) → IsChild q c → c < length fs → c ≢ p → InOrder fs q c
  up_others q c is inside differs = by_child (cases_eq c k) (cases_eq q k) (cases_eq q p)
    where
      by_child : (c ≡ k) ⊎ (c ≢ k) → (q ≡ k) ⊎ (q ≢ k) → (q ≡ p) ⊎ (q ≢ p) → InOrder fs q c
      by_child (inl same) qk qp =
          let parent : q ≡ p = one_parent q p k (subst (λ j. IsChild q j) same is) child in
          ordered_as fs q c (at es k) (at es p) (ap (at fs) parent ∙ at_p) (ap (at fs) same ∙ at_k) (not_back (at es k) (at es p) less)
      by_child (inr other) (inl same) qp =
          ordered_as fs q c (at es p) (at es c) (ap (at fs) same ∙ at_k) (at_other c other differs)
          (heap.around p c child (subst (λ j. IsChild j c) same is) (omega arith))
      by_child (inr other) (inr not_k) (inl same) =
          ordered_as fs q c (at es k) (at es c) (ap (at fs) same ∙ at_p) (at_other c other differs)
          (not_less (at es k) (at es p) (at es c) less (heap.others p c (subst (λ j. IsChild j c) same is) (omega arith) other))
      by_child (inr other) (inr not_k) (inr not_p) =
          ordered_as fs q c (at es q) (at es c) (at_other q not_k not_p) (at_other c other differs) (heap.others q c is (omega arith) other)

  up_around : (q c : ℕ) → IsChild q p → IsChild p c → c < length fs → InOrder fs q c
  up_around q c is_p is_c inside =
      let below = child_above q p is_p in
      let below_k = child_above p k child in
      let below_c = child_above p c is_c in
      let at_q : at fs q ≡ at es q = at_other q (λ e. absurd (omega arith)) (λ e. absurd (omega arith)) in
      let above = heap.others q p is_p (omega arith) (λ e. absurd (omega arith)) in
      elim (cases_eq c k) [
        | inl same ↦ ordered_as fs q c (at es q) (at es p) at_q (ap (at fs) same ∙ at_k) above
        | inr other ↦
            ordered_as fs q c (at es q) (at es c) at_q (at_other c other (λ e. absurd (omega arith)))
            (not_trans (at es q) (at es p) (at es c) (heap.others p c is_c (omega arith) other) above)
      ]

  pub up_step : IsHeapAbove fs p
  up_step = record { others = up_others; around = up_around }

pub up_done : (es : List Entry) (k p : ℕ) → IsChild p k → InOrder es p k → IsHeapAbove es k → IsHeap es
up_done es k p child order heap q c is inside =
    elim (cases_eq c k) [
      | inl same ↦
          let parent : q ≡ p = one_parent q p k (subst (λ j. IsChild q j) same is) child in
          subst (λ j. InOrder es q j) (sym same) (subst (λ j. InOrder es j k) (sym parent) order)
      | inr other ↦ heap.others q c is inside other
    ]

-- ## One step down

module _ (es fs : List Entry) (k c : ℕ) (child : IsChild k c) (within : c < length es) (len : length fs ≡ length es) (swapped : SwappedAt es fs k c) (less : is_before (at es c) (at es k) ≡ true) (first : (d : ℕ) → IsChild k d → d < length es → InOrder es c d) (heap : IsHeapBelow es k) where
  down_others : (q d : ℕ) → IsChild q d → d < length fs → q ≢ c → InOrder fs q d
  down_others q d is inside differs = by_parent (cases_eq q k) (cases_eq d c) (cases_eq d k)
    where
      by_parent : (q ≡ k) ⊎ (q ≢ k) → (d ≡ c) ⊎ (d ≢ c) → (d ≡ k) ⊎ (d ≢ k) → InOrder fs q d
      by_parent (inl same) (inl same_c) dk =
          ordered_as fs q d (at es c) (at es k) (ap (at fs) same ∙ swapped.0 no_entry) (ap (at fs) same_c ∙ swapped.1 no_entry) (not_back (at es c) (at es k) less)
      by_parent (inl same) (inr other) dk =
          let above = child_above q d is in
          ordered_as fs q d (at es c) (at es d) (ap (at fs) same ∙ swapped.0 no_entry) (swapped.2 d no_entry (λ e. absurd (omega arith)) other)
          (first d (subst (λ j. IsChild j d) same is) (omega arith))
      by_parent (inr not_k) (inl same_c) dk =
          absurd (not_k (one_parent q k c (subst (λ j. IsChild q j) same_c is) child))
      by_parent (inr not_k) (inr other) (inl same_k) =
          ordered_as fs q d (at es q) (at es c) (swapped.2 q no_entry not_k differs) (ap (at fs) same_k ∙ swapped.0 no_entry)
          (heap.around q c (subst (λ j. IsChild q j) same_k is) child within)
      by_parent (inr not_k) (inr other) (inr not_dk) =
          ordered_as fs q d (at es q) (at es d) (swapped.2 q no_entry not_k differs) (swapped.2 d no_entry not_dk other)
          (heap.others q d is (omega arith) not_k)

  down_around : (q d : ℕ) → IsChild q c → IsChild c d → d < length fs → InOrder fs q d
  down_around q d is_c is_d inside =
      let same : q ≡ k = one_parent q k c is_c child in
      let above = child_above c d is_d in
      let above_k = child_above k c child in
      ordered_as fs q d (at es c) (at es d) (ap (at fs) same ∙ swapped.0 no_entry) (swapped.2 d no_entry (λ e. absurd (omega arith)) (λ e. absurd (omega arith)))
      (heap.others c d is_d (omega arith) (λ e. absurd (omega arith)))

  pub down_step : IsHeapBelow fs c
  down_step = record { others = down_others; around = down_around }

pub down_done : (es : List Entry) (k : ℕ) → ((c : ℕ) → IsChild k c → c < length es → InOrder es k c) → IsHeapBelow es k → IsHeap es
down_done es k order heap p c is inside =
    elim (cases_eq p k) [
      | inl same ↦ subst (λ j. InOrder es j c) (sym same) (order c (subst (λ j. IsChild j c) same is) inside)
      | inr other ↦ heap.others p c is inside other
    ]

pub not_child_of : (p c n : ℕ) → IsChild p c → n ≤ p + p + 1 + 1 → c < n → c ≡ p + p + 1
not_child_of p c n (inl is) past inside = is
not_child_of p c n (inr is) past inside = absurd (omega arith)
