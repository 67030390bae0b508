use Rattle.std.proofs.Common.{◌≡◌, ◌≢◌, ℕ, ◌<◌, List, length, get_or, set, ap, sym, subst, refl, ◌⊎◌, ◌∙◌, inl, inr, arith}
use Rattle.std.specs.List.{SwappedAt}
use Rattle.std.proofs.lemmas.Bool.{cases_eq}
use Rattle.std.proofs.lemmas.List.{get_or-set_same, get_or-set_other, length-set, get_or_default}
use Rattle.tw_heap.specs.declared.entries.Entry.{Entry}
use Rattle.tw_heap.specs.Heap.{at, no_entry, IsPlaced}
use Rattle.tw_heap.proofs.sifting.exchange.Goals as goal

-- what reads an entry that changed places with another reads that one
at_swapped : (es : List Entry) (k : ℕ) (x d : Entry) → k < length es → x ≡ get_or es k d → at es k ≡ x
at_swapped es k x d within is = get_or_default es k no_entry d within ∙ sym is

-- of entries whose places are kept, an index that is that of one is among the places
index_within : (es : List Entry) (places : List ℕ) (k : ℕ) (x d : Entry) → IsPlaced es places → k < length es → x ≡ get_or es k d → x.index < length places
index_within es places k x d placed within is = omega (arith, (placed k within).0, ap (λ (e : Entry). e.index) (at_swapped es k x d within is))

-- two entries change places, and under the index of each the new place is kept
module _ (es fs : List Entry) (places : List ℕ) (a b : ℕ) (x y d e : Entry) (placed : IsPlaced es places) (a_in : a < length es) (b_in : b < length es) (swapped : SwappedAt es fs a b) (len : length fs ≡ length es) (x_is : x ≡ get_or fs a d) (y_is : y ≡ get_or fs b e) where
  abbrev now : List ℕ
  now = set (set places x.index a) y.index b

  -- what stands at the two places
  x_stood : at es b ≡ x
  x_stood = at_swapped es b x d b_in (x_is ∙ swapped.0 d)

  y_stood : at es a ≡ y
  y_stood = at_swapped es a y e a_in (y_is ∙ swapped.1 e)

  x_place : (x.index < length places) × (get_or places x.index 0 ≡ b)
  x_place = subst (λ (z : Entry). (z.index < length places) × (get_or places z.index 0 ≡ b)) x_stood (placed b b_in)

  y_place : (y.index < length places) × (get_or places y.index 0 ≡ a)
  y_place = subst (λ (z : Entry). (z.index < length places) × (get_or places z.index 0 ≡ a)) y_stood (placed a a_in)

  len_now : length now ≡ length places
  len_now = simp length-set

  at_y : (z : ℕ) → z ≡ y.index → (z < length now) × (get_or now z 0 ≡ b)
  at_y z is = (omega (arith, len_now, y_place.0), ap (λ i. get_or now i 0) is ∙ get_or-set_same (set places x.index a) y.index b 0 (omega (arith, length-set places x.index a, y_place.0)))

  at_x : (z : ℕ) → z ≡ x.index → a ≢ b → (z < length now) × (get_or now z 0 ≡ a)
  at_x z is apart =
      let differs : z ≢ y.index = λ same. apart (sym y_place.1 ∙ ap (λ i. get_or places i 0) (sym same ∙ is) ∙ x_place.1) in
      (omega (arith, len_now, x_place.0), get_or-set_other (set places x.index a) y.index z b 0 differs ∙ ap (λ i. get_or (set places x.index a) i 0) is ∙ get_or-set_same places x.index a 0 x_place.0)

  at_other : (z k : ℕ) → (z < length places) × (get_or places z 0 ≡ k) → k ≢ a → k ≢ b → (z < length now) × (get_or now z 0 ≡ k)
  at_other z k is not_a not_b =
      let not_y : z ≢ y.index = λ same. not_a (sym is.1 ∙ ap (λ i. get_or places i 0) same ∙ y_place.1) in
      let not_x : z ≢ x.index = λ same. not_b (sym is.1 ∙ ap (λ i. get_or places i 0) same ∙ x_place.1) in
      (omega (arith, len_now, is.0), get_or-set_other (set places x.index a) y.index z b 0 not_y ∙ get_or-set_other places x.index z a 0 not_x ∙ is.1)

  placed_now : IsPlaced fs now
  placed_now k within = by_place (cases_eq k b) (cases_eq k a)
    where
      by_place : (k ≡ b) ⊎ (k ≢ b) → (k ≡ a) ⊎ (k ≢ a) → ((at fs k).index < length now) × (get_or now (at fs k).index 0 ≡ k)
      by_place (inl is) one =
          let same : (at fs k).index ≡ y.index = ap (λ j. (at fs j).index) is ∙ ap (λ (z : Entry). z.index) (swapped.1 no_entry ∙ y_stood) in
          let there = at_y (at fs k).index same in (there.0, there.1 ∙ sym is)
      by_place (inr not_b) (inl is) =
          let same : (at fs k).index ≡ x.index = ap (λ j. (at fs j).index) is ∙ ap (λ (z : Entry). z.index) (swapped.0 no_entry ∙ x_stood) in
          let there = at_x (at fs k).index same (λ one. not_b (is ∙ one)) in (there.0, there.1 ∙ sym is)
      by_place (inr not_b) (inr not_a) =
          let same : (at fs k).index ≡ (at es k).index = ap (λ (z : Entry). z.index) (swapped.2 k no_entry not_a not_b) in
          let there = at_other (at es k).index k (placed k (omega (arith, len, within))) not_a not_b in
          (omega (arith, there.0, same), ap (λ i. get_or now i 0) same ∙ there.1)

pub bounds-places-index : goal.bounds-places-index
bounds-places-index c = index_within c.args.entries.now c.args.places.now c.args.second _ _ c.requires.placed c.requires.second (c.swap.ensures.by_index.0 c.index-entries-first.result)

pub offset_bounds-places-index : goal.offset_bounds-places-index
offset_bounds-places-index c = omega (arith, bounds-places-index c)

pub bounds-places-index-2 : goal.bounds-places-index-2
bounds-places-index-2 c =
    omega (arith, length-set {A = ℕ}, index_within c.args.entries.now c.args.places.now c.args.first _ _ c.requires.placed c.requires.first (c.swap.ensures.by_index.1 c.index-entries-second.result))

pub offset_bounds-places-index-2 : goal.offset_bounds-places-index-2
offset_bounds-places-index-2 c = omega (arith, index_within c.args.entries.now c.args.places.now c.args.first _ _ c.requires.placed c.requires.first (c.swap.ensures.by_index.1 c.index-entries-second.result))

pub returns-clause-placed : goal.returns-clause-placed
returns-clause-placed c = placed_now c.args.entries.now c.swap.new.self c.args.places.now c.args.first c.args.second _ _ c.index-entries-first.result c.index-entries-second.result c.requires.placed c.requires.first c.requires.second c.swap.ensures.by_index c.swap.ensures.len refl refl
