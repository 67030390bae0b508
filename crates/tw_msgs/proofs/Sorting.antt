-- A list put in a total order in which only equal things tie. There is one such list: each permutation of the list that
-- is in order is it.
use Rattle.std.proofs.Common.{◌≡◌, ℕ, ◌+◌, ◌<◌, true, false, List, [], ◌∷◌, length, refl, sym, ap, ◌∙◌, subst, ⊎_elim, arith, true≢false, slice_index_or, if◌then◌else◌, zero, suc}
use Rattle.std.specs.Cmp.{IsTotalOrder}
use Rattle.std.specs.Ordering.{is_le, is_lt, is_gt, ordering_reverse}
use Rattle.std.specs.declared.cmp.Ordering.{Ordering}
use Rattle.std.specs.declared.cmp.Ordering.TheVariants.{Less, Equal, Greater}
use Rattle.std.specs.List.Sorted.{IsPermutation, IsSorted}
use Rattle.std.proofs.lemmas.Bool.{cases_Bool, cond-true, cond-false, cond_both}
use Rattle.std.proofs.lemmas.Cmp.{upto, tied_itself}
use Rattle.std.proofs.lemmas.List.Sorted.{IsPermutation-refl, IsPermutation-sym, IsPermutation-trans, IsPermutation-cons, IsPermutation-middle}
use Rattle.tw_msgs.specs.Counting.{total}
use Rattle.tw_msgs.proofs.Totals.{total-permutation}

-- a total order in which only equal things tie
pub record Ranks {X : Type 0} (R : X → X → Ordering) : Type 0 where
  pub total : IsTotalOrder R
  pub exact : (x y : X) → R x y ≡ Equal → x ≡ y

-- the list with x before the first that it does not come after
abbrev pub insert_by : {X : Type 0} → (X → X → Ordering) → X → List X → List X
insert_by R x [] = x ∷ []
insert_by R x (y ∷ ys) = if is_le (R x y) then x ∷ y ∷ ys else y ∷ insert_by R x ys

abbrev pub sort_by : {X : Type 0} → (X → X → Ordering) → List X → List X
sort_by R [] = []
sort_by R (x ∷ xs) = insert_by R x (sort_by R xs)

-- x does not come after the first of the list, if there is one
abbrev pub LeadsBy : {X : Type 0} → (X → X → Ordering) → X → List X → Type 0
LeadsBy R x [] = Unit {0}
LeadsBy R x (y ∷ ys) = is_le (R x y) ≡ true

-- the list is in order
abbrev pub RisesBy : {X : Type 0} → (X → X → Ordering) → List X → Type 0
RisesBy R [] = Unit {0}
RisesBy R (x ∷ xs) = LeadsBy R x xs × RisesBy R xs

-- 1 where x and y tie
abbrev tie : Ordering → ℕ
tie Less = 0
tie Equal = 1
tie Greater = 0

pub not_gt : (r : Ordering) → is_le r ≡ true → is_gt r ≡ false
not_gt Less e = refl
not_gt Equal e = refl
not_gt Greater e = absurd (true≢false (sym e))

pub le_from_not_gt : (r : Ordering) → is_gt r ≡ false → is_le r ≡ true
le_from_not_gt Less e = refl
le_from_not_gt Equal e = refl
le_from_not_gt Greater e = absurd (true≢false e)

module _ {X : Type 0} {R : X → X → Ordering} (o : Ranks R) where
  pub other_way : (x y : X) → is_le (R x y) ≡ false → is_le (R y x) ≡ true
  other_way x y e = go (R y x) (o.total.antisymm x y)
    where
      go : (r : Ordering) → R x y ≡ ordering_reverse r → is_le r ≡ true
      go Less h = refl
      go Equal h = refl
      go Greater h = absurd (true≢false (ap is_le (sym h) ∙ e))

  pub le-trans : (x y z : X) → is_le (R x y) ≡ true → is_le (R y z) ≡ true → is_le (R x z) ≡ true
  le-trans x y z e f = le_from_not_gt (R x z) (upto o.total x y z (not_gt (R x y) e) (not_gt (R y z) f))

  pub le-antisymm : (x y : X) → is_le (R x y) ≡ true → is_le (R y x) ≡ true → x ≡ y
  le-antisymm x y e f = go (R y x) (o.total.antisymm x y) f
    where
      go : (r : Ordering) → R x y ≡ ordering_reverse r → is_le r ≡ true → x ≡ y
      go Less h g = absurd (true≢false (sym e ∙ ap is_le h))
      go Equal h g = o.exact x y h
      go Greater h g = absurd (true≢false (sym g))

  pub le-refl : (x : X) → is_le (R x x) ≡ true
  le-refl x = ap is_le (tied_itself o.total x)

  insert_front : (x y : X) (ys : List X) → is_le (R x y) ≡ true → insert_by R x (y ∷ ys) ≡ x ∷ y ∷ ys
  insert_front x y ys e = cond-true (is_le (R x y)) _ _ e

  insert_later : (x y : X) (ys : List X) → is_le (R x y) ≡ false → insert_by R x (y ∷ ys) ≡ y ∷ insert_by R x ys
  insert_later x y ys e = cond-false (is_le (R x y)) _ _ e

  pub insert_leads : (x : X) (xs : List X) → LeadsBy R x xs → insert_by R x xs ≡ x ∷ xs
  insert_leads x [] h = refl
  insert_leads x (y ∷ ys) h = insert_front x y ys h

  -- ---- placing commutes

  -- what stands up to y is not after what stands after y
  apart : (y a b : X) → is_le (R a y) ≡ true → is_le (R b y) ≡ false → is_le (R b a) ≡ false
  apart y a b e f = ⊎_elim (λ g. absurd (true≢false (sym (le-trans b a y g e) ∙ f))) (λ g. g) (cases_Bool (is_le (R b a)))

  -- two that both lead the rest
  both_lead : (a b : X) (xs : List X) → LeadsBy R a xs → LeadsBy R b xs → insert_by R a (b ∷ xs) ≡ insert_by R b (a ∷ xs)
  both_lead a b xs p q =
      ⊎_elim
      (λ e. ⊎_elim (λ f. let s = le-antisymm a b e f in λ i. insert_by R (s i) (sym s i ∷ xs))
      (λ f. insert_front a b xs e ∙ sym (insert_later b a xs f ∙ ap (λ l. a ∷ l) (insert_leads b xs q)))
      (cases_Bool (is_le (R b a))))
      (λ e. insert_later a b xs e ∙ ap (λ l. b ∷ l) (insert_leads a xs p) ∙ sym (insert_front b a xs (other_way a b e)))
      (cases_Bool (is_le (R a b)))

  pub insert-comm : (a b : X) (xs : List X) → insert_by R a (insert_by R b xs) ≡ insert_by R b (insert_by R a xs)
  insert-comm a b [] = both_lead a b [] tt tt
  insert-comm a b (y ∷ ys) =
      ⊎_elim
      (λ e. ⊎_elim (λ f. none e f) (λ f. one a b e f) (cases_Bool (is_le (R b y))))
      (λ e. ⊎_elim (λ f. sym (one b a f e)) (λ f. both e f (insert-comm a b ys)) (cases_Bool (is_le (R b y))))
      (cases_Bool (is_le (R a y)))
    where
      none : is_le (R a y) ≡ true → is_le (R b y) ≡ true → insert_by R a (insert_by R b (y ∷ ys)) ≡ insert_by R b (insert_by R a (y ∷ ys))
      none e f = ap (insert_by R a) (insert_front b y ys f) ∙ both_lead a b (y ∷ ys) e f ∙ sym (ap (insert_by R b) (insert_front a y ys e))

      one : (c d : X) → is_le (R c y) ≡ true → is_le (R d y) ≡ false → insert_by R c (insert_by R d (y ∷ ys)) ≡ insert_by R d (insert_by R c (y ∷ ys))
      one c d e f =
          ap (insert_by R c) (insert_later d y ys f) ∙ insert_front c y (insert_by R d ys) e
          ∙ sym (ap (insert_by R d) (insert_front c y ys e) ∙ insert_later d c (y ∷ ys) (apart y c d e f) ∙ ap (λ l. c ∷ l) (insert_later d y ys f))

      both : is_le (R a y) ≡ false → is_le (R b y) ≡ false → insert_by R a (insert_by R b ys) ≡ insert_by R b (insert_by R a ys) → insert_by R a (insert_by R b (y ∷ ys)) ≡ insert_by R b (insert_by R a (y ∷ ys))
      both e f ih =
          ap (insert_by R a) (insert_later b y ys f) ∙ insert_later a y (insert_by R b ys) e ∙ ap (λ l. y ∷ l) ih
          ∙ sym (ap (insert_by R b) (insert_later a y ys e) ∙ insert_later b y (insert_by R a ys) f)

  -- ---- lists with the same things make one sorted list

  -- a list with one x taken out of it
  record TakenOut (x : X) (ys : List X) : Type 0 where
    rest : List X
    sorted : sort_by R ys ≡ insert_by R x (sort_by R rest)
    counts : (k : X) → total (λ y. tie (R k y)) ys ≡ tie (R k x) + total (λ y. tie (R k y)) rest

  take_out : (x : X) (ys : List X) → 0 < total (λ y. tie (R x y)) ys → TakenOut x ys
  take_out x [] h = absurd (omega (arith, h))
  take_out x (y ∷ ys) h = go (R x y) refl (take_out x ys)
    where
      here : R x y ≡ Equal → TakenOut x (y ∷ ys)
      here e =
          let s = o.exact x y e in
          record { rest = ys; sorted = λ i. insert_by R (sym s i) (sort_by R ys); counts = λ k. ap (λ z. tie (R k z) + total (λ v. tie (R k v)) ys) (sym s) }

      there : TakenOut x ys → TakenOut x (y ∷ ys)
      there t =
          record {
            rest = y ∷ t.rest;
            sorted = ap (insert_by R y) t.sorted ∙ insert-comm y x (sort_by R t.rest);
            counts = λ k. let c = t.counts k in omega (arith, c);
          }

      go : (r : Ordering) → R x y ≡ r → (0 < total (λ v. tie (R x v)) ys → TakenOut x ys) → TakenOut x (y ∷ ys)
      go Less e more = let z = ap tie e in there (more (omega (arith, h, z)))
      go Equal e more = here e
      go Greater e more = let z = ap tie e in there (more (omega (arith, h, z)))

  sorts_alike : (xs ys : List X) → ((k : X) → total (λ v. tie (R k v)) xs ≡ total (λ v. tie (R k v)) ys) → sort_by R xs ≡ sort_by R ys
  sorts_alike [] [] h = refl
  sorts_alike [] (y ∷ ys) h = let e = h y in let z = ap tie (tied_itself o.total y) in absurd (omega (arith, e, z))
  sorts_alike (x ∷ xs) ys h =
      let e = h x in
      let z = ap tie (tied_itself o.total x) in
      let t : TakenOut x ys = take_out x ys (omega (arith, e, z)) in
      let ih = sorts_alike xs t.rest (λ k. let a = h k in let b = t.counts k in omega (arith, a, b)) in
      ap (insert_by R x) ih ∙ sym t.sorted

  pub sort-permutation : (xs ys : List X) → IsPermutation xs ys → sort_by R xs ≡ sort_by R ys
  sort-permutation xs ys h = sorts_alike xs ys (λ k. sym (total-permutation (λ v. tie (R k v)) xs ys h))

  -- ---- what is in order

  pub sort_of_rising : (xs : List X) → RisesBy R xs → sort_by R xs ≡ xs
  sort_of_rising [] h = refl
  sort_of_rising (x ∷ xs) h = ap (insert_by R x) (sort_of_rising xs h.1) ∙ insert_leads x xs h.0

  -- the one permutation that is in order
  pub only_sorted : (xs ys : List X) → IsPermutation xs ys → RisesBy R ys → ys ≡ sort_by R xs
  only_sorted xs ys same up = sym (sort_of_rising ys up) ∙ sym (sort-permutation xs ys same)

  leads_inserted : (x y : X) (ys : List X) → is_le (R y x) ≡ true → LeadsBy R y ys → LeadsBy R y (insert_by R x ys)
  leads_inserted x y [] e h = e
  leads_inserted x y (z ∷ zs) e h = cond_both (is_le (R x z)) (x ∷ z ∷ zs) (z ∷ insert_by R x zs) (LeadsBy R y) (λ f. e) (λ f. h)

  pub insert_rises : (x : X) (xs : List X) → RisesBy R xs → RisesBy R (insert_by R x xs)
  insert_rises x [] h = (tt, tt)
  insert_rises x (y ∷ ys) h =
      cond_both (is_le (R x y)) (x ∷ y ∷ ys) (y ∷ insert_by R x ys) (RisesBy R)
      (λ e. (e, h))
      (λ e. (leads_inserted x y ys (other_way x y e) h.0, insert_rises x ys h.1))

  pub sort_rises : (xs : List X) → RisesBy R (sort_by R xs)
  sort_rises [] = tt
  sort_rises (x ∷ xs) = insert_rises x (sort_by R xs) (sort_rises xs)

  -- ---- the order that a sort of a slice gives

  pub is_le_from_not_lt : (x y : X) → is_lt (R y x) ≡ false → is_le (R x y) ≡ true
  is_le_from_not_lt x y e = go (R y x) (o.total.antisymm x y) e
    where
      go : (r : Ordering) → R x y ≡ ordering_reverse r → is_lt r ≡ false → is_le (R x y) ≡ true
      go Less h f = absurd (true≢false f)
      go Equal h f = ap is_le h
      go Greater h f = ap is_le h

  pub not_lt_from_le : (x y : X) → is_le (R x y) ≡ true → is_lt (R y x) ≡ false
  not_lt_from_le x y e = go (R y x) (o.total.antisymm x y)
    where
      go : (r : Ordering) → R x y ≡ ordering_reverse r → is_lt r ≡ false
      go Less h = absurd (true≢false (sym e ∙ ap is_le h))
      go Equal h = refl
      go Greater h = refl

  -- the one at place n is not before the one at k of the rest
  abbrev Falls : X → X → List X → ℕ → X → ℕ → Type 0
  Falls x y ys k d n = is_lt (R (slice_index_or (x ∷ y ∷ ys) n d) (slice_index_or (y ∷ ys) k d)) ≡ false

  next : (k : ℕ) → suc k + 1 ≡ suc (k + 1)
  next k = omega arith

  pub RisesBy-from_IsSorted : (xs : List X) → IsSorted R xs → RisesBy R xs
  RisesBy-from_IsSorted [] h = tt
  RisesBy-from_IsSorted (x ∷ []) h = (tt, tt)
  RisesBy-from_IsSorted (x ∷ y ∷ ys) h =
      (is_le_from_not_lt x y (h 0 x (omega arith) (omega arith)), RisesBy-from_IsSorted (y ∷ ys) (λ k d low high. subst (Falls x y ys k d) (next k) (h (suc k) d (omega arith) (omega arith))))

  pub IsSorted-from_RisesBy : (xs : List X) → RisesBy R xs → IsSorted R xs
  IsSorted-from_RisesBy [] up = λ k d low high. absurd (omega arith)
  IsSorted-from_RisesBy (x ∷ []) up = λ k d low high. absurd (omega arith)
  IsSorted-from_RisesBy (x ∷ y ∷ ys) up = λ k d low high. go k d high (IsSorted-from_RisesBy (y ∷ ys) up.1)
    where
      go : (k : ℕ) (d : X) → k + 1 < length (x ∷ y ∷ ys) → IsSorted R (y ∷ ys) → is_lt (R (slice_index_or (x ∷ y ∷ ys) (k + 1) d) (slice_index_or (x ∷ y ∷ ys) k d)) ≡ false
      go zero d high rest = not_lt_from_le x y up.0
      go (suc k) d high rest = subst (Falls x y ys k d) (sym (next k)) (rest k d (omega arith) (omega arith))

  -- ---- the same things

  pub insert-IsPermutation : (x : X) (xs : List X) → IsPermutation (x ∷ xs) (insert_by R x xs)
  insert-IsPermutation x [] = IsPermutation-refl (x ∷ [])
  insert-IsPermutation x (y ∷ ys) =
      cond_both (is_le (R x y)) (x ∷ y ∷ ys) (y ∷ insert_by R x ys) (IsPermutation (x ∷ y ∷ ys))
      (λ e. IsPermutation-refl (x ∷ y ∷ ys))
      (λ e.
      IsPermutation-trans (x ∷ y ∷ ys) (y ∷ x ∷ ys) (y ∷ insert_by R x ys)
      (IsPermutation-sym (y ∷ x ∷ ys) (x ∷ y ∷ ys) (IsPermutation-middle (y ∷ []) x ys))
      (IsPermutation-cons y (x ∷ ys) (insert_by R x ys) (insert-IsPermutation x ys)))

  pub sort-IsPermutation : (xs : List X) → IsPermutation xs (sort_by R xs)
  sort-IsPermutation [] = IsPermutation-refl []
  sort-IsPermutation (x ∷ xs) =
      IsPermutation-trans (x ∷ xs) (x ∷ sort_by R xs) (insert_by R x (sort_by R xs))
      (IsPermutation-cons x xs (sort_by R xs) (sort-IsPermutation xs))
      (insert-IsPermutation x (sort_by R xs))
