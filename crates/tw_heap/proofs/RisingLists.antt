-- Lists in rising order: insertion, sorting, and what stands first.
use Rattle.std.proofs.Common.{◌≡◌, ◌⊎◌, ℕ, zero, suc, ◌<◌, Bool, true, false, List, [], ◌∷◌, ◌++◌, length, get_or, set, cond, refl, sym, ap, ◌∙◌, inl, inr, arith}
use Rattle.std.specs.List.{swap}
use Rattle.std.specs.List.Sorted.{IsPermutation}
use Rattle.std.proofs.lemmas.Bool.{cases_eq, cases_Bool}
use Rattle.std.proofs.lemmas.List.{get_or-set_same, get_or-set_other, length-set}
use Rattle.std.proofs.lemmas.List.Sorted.{IsPermutation-keeps}
use Rattle.tw_heap.specs.Order.{IsStrictOrder, insert_by, sort_by}

module _ {X : Type 0} (lt : X → X → Bool) (o : IsStrictOrder lt) where
  placed_past : (x y : X) (ys : List X) → lt y x ≡ true → insert_by lt x (y ∷ ys) ≡ y ∷ insert_by lt x ys
  placed_past x y ys less = rw less refl

  placed_here : (x y : X) (ys : List X) → lt y x ≡ false → insert_by lt x (y ∷ ys) ≡ x ∷ y ∷ ys
  placed_here x y ys less = rw less refl

  -- y is not after x, and x is before z
  le_lt : (y x z : X) → lt x y ≡ false → lt x z ≡ true → lt y z ≡ true
  le_lt y x z below less = go (cases_Bool (lt y x))
    where
      go : (lt y x ≡ true) ⊎ (lt y x ≡ false) → lt y z ≡ true
      go (inl before) = o.transitive y x z before less
      go (inr not_before) = rw (o.connected y x not_before below) less

  pub asymmetric : (x y : X) → lt x y ≡ true → lt y x ≡ false
  asymmetric x y less = go (cases_Bool (lt y x))
    where
      go : (lt y x ≡ true) ⊎ (lt y x ≡ false) → lt y x ≡ false
      go (inl more) = let both = sym (o.transitive x y x less more) ∙ o.irreflexive x in absurd (cc)
      go (inr not_more) = not_more

  both_here : (a b x : X) (l : List X) → lt x a ≡ false → lt x b ≡ false → insert_by lt a (b ∷ x ∷ l) ≡ insert_by lt b (a ∷ x ∷ l)
  both_here a b x l here_a here_b = go (cases_Bool (lt a b)) (cases_Bool (lt b a))
    where
      go : (lt a b ≡ true) ⊎ (lt a b ≡ false) → (lt b a ≡ true) ⊎ (lt b a ≡ false) → insert_by lt a (b ∷ x ∷ l) ≡ insert_by lt b (a ∷ x ∷ l)
      go (inl less) (inl more) = let never = sym (asymmetric a b less) ∙ more in absurd (cc)
      go (inl less) (inr not_more) = rw (less, not_more, here_b) refl
      go (inr not_less) (inl more) = rw (more, not_less, here_a) refl
      go (inr not_less) (inr not_more) = rw (not_more, not_less, o.connected a b not_less not_more) refl

  pub placed_comm : (a b : X) (l : List X) → insert_by lt a (insert_by lt b l) ≡ insert_by lt b (insert_by lt a l)
  placed_comm a b [] = go (cases_Bool (lt a b)) (cases_Bool (lt b a))
    where
      go : (lt a b ≡ true) ⊎ (lt a b ≡ false) → (lt b a ≡ true) ⊎ (lt b a ≡ false) → insert_by lt a (b ∷ []) ≡ insert_by lt b (a ∷ [])
      go (inl less) (inl more) = let never = sym (asymmetric a b less) ∙ more in absurd (cc)
      go (inl less) (inr not_more) = rw (less, not_more) refl
      go (inr not_less) (inl more) = rw (more, not_less) refl
      go (inr not_less) (inr not_more) = rw (not_more, not_less, o.connected a b not_less not_more) refl
  placed_comm a b (x ∷ l) = go (placed_comm a b l) (cases_Bool (lt x a)) (cases_Bool (lt x b))
    where
      go : insert_by lt a (insert_by lt b l) ≡ insert_by lt b (insert_by lt a l) → (lt x a ≡ true) ⊎ (lt x a ≡ false) → (lt x b ≡ true) ⊎ (lt x b ≡ false) → insert_by lt a (insert_by lt b (x ∷ l)) ≡ insert_by lt b (insert_by lt a (x ∷ l))
      go rest (inl past_a) (inl past_b) =
          ap (insert_by lt a) (placed_past b x l past_b) ∙ placed_past a x (insert_by lt b l) past_a ∙ ap (λ xs. x ∷ xs) rest
          ∙ sym (placed_past b x (insert_by lt a l) past_b) ∙ ap (insert_by lt b) (sym (placed_past a x l past_a))
      go rest (inl past_a) (inr here_b) =
          ap (insert_by lt a) (placed_here b x l here_b) ∙ placed_past a b (x ∷ l) (le_lt b x a here_b past_a)
          ∙ ap (λ xs. b ∷ xs) (placed_past a x l past_a)
          ∙ sym (placed_here b x (insert_by lt a l) here_b) ∙ ap (insert_by lt b) (sym (placed_past a x l past_a))
      go rest (inr here_a) (inl past_b) =
          ap (insert_by lt a) (placed_past b x l past_b) ∙ placed_here a x (insert_by lt b l) here_a
          ∙ ap (λ xs. a ∷ xs) (sym (placed_past b x l past_b))
          ∙ sym (placed_past b a (x ∷ l) (le_lt a x b here_a past_b)) ∙ ap (insert_by lt b) (sym (placed_here a x l here_a))
      go rest (inr here_a) (inr here_b) =
          ap (insert_by lt a) (placed_here b x l here_b) ∙ both_here a b x l here_a here_b ∙ ap (insert_by lt b) (sym (placed_here a x l here_a))

  -- ## A list in rising order does not depend on the order that it had

  pub sorted_set : (l : List X) (i : ℕ) (y d : X) → i < length l → insert_by lt (get_or l i d) (sort_by lt (set l i y)) ≡ insert_by lt y (sort_by lt l)
  sorted_set [] i y d within = absurd (omega (arith, within))
  sorted_set (x ∷ l) zero y d within = placed_comm x y (sort_by lt l)
  sorted_set (z ∷ l) (suc i) y d within =
      placed_comm (get_or l i d) z (sort_by lt (set l i y))
      ∙ ap (insert_by lt z) (sorted_set l i y d (omega (arith, within)))
      ∙ placed_comm z y (sort_by lt l)

  taken : X → List X → List X
  taken x [] = []
  taken x (y ∷ ys) = cond (lt y x) (y ∷ taken x ys) ys

  taken_placed : (x : X) (l : List X) → taken x (insert_by lt x l) ≡ l
  unfolding taken
  taken_placed x [] = rw (o.irreflexive x) refl
  taken_placed x (y ∷ l) = go (taken_placed x l) (cases_Bool (lt y x))
    where
      go : taken x (insert_by lt x l) ≡ l → (lt y x ≡ true) ⊎ (lt y x ≡ false) → taken x (insert_by lt x (y ∷ l)) ≡ y ∷ l
      go rest (inl past) = ap (taken x) (placed_past x y l past) ∙ rw past (ap (λ xs. y ∷ xs) rest)
      go rest (inr here) = ap (taken x) (placed_here x y l here) ∙ rw (o.irreflexive x) refl

  placed_inj : (x : X) (l m : List X) → insert_by lt x l ≡ insert_by lt x m → l ≡ m
  placed_inj x l m same = sym (taken_placed x l) ∙ ap (taken x) same ∙ taken_placed x m

  sorted_swap : (l : List X) (i j : ℕ) → i < length l → j < length l → sort_by lt (swap l i j) ≡ sort_by lt l
  sorted_swap [] i j inside_i inside_j = refl
  sorted_swap (d ∷ l) i j inside_i inside_j =
      let xs : List X = d ∷ l in
      let x = get_or xs i d in
      let y = get_or xs j d in
      let m = set xs i y in
      let read : get_or m j d ≡ y = elim (cases_eq j i) [
        | inl same ↦ ap (λ k. get_or m k d) same ∙ get_or-set_same xs i y d inside_i
        | inr differs ↦ get_or-set_other xs i j y d differs
      ] in
      let first = sorted_set xs i y d inside_i in
      let second = sorted_set m j x d (omega (arith, length-set xs i y, inside_j)) in
      placed_inj y (sort_by lt (set m j x)) (sort_by lt xs) (ap (λ z. insert_by lt z (sort_by lt (set m j x))) (sym read) ∙ second ∙ first)

  pub sorted_permutation : (xs ys : List X) → IsPermutation xs ys → sort_by lt ys ≡ sort_by lt xs
  sorted_permutation xs ys =
      IsPermutation-keeps xs (λ l. sort_by lt l ≡ sort_by lt xs) refl (λ l i j inside_i inside_j same. sorted_swap l i j inside_i inside_j ∙ same) ys

  pub sorted_push : (l : List X) (x : X) → sort_by lt (l ++ x ∷ []) ≡ insert_by lt x (sort_by lt l)
  sorted_push [] x = refl
  sorted_push (y ∷ l) x = ap (insert_by lt y) (sorted_push l x) ∙ placed_comm y x (sort_by lt l)

  -- ## What comes first

  -- nothing in the list is before x
  abbrev pub IsLeast : X → List X → Type 0
  IsLeast x [] = Unit {0}
  IsLeast x (y ∷ ys) = (lt y x ≡ false) × IsLeast x ys

  least_placed : (x y : X) (l : List X) → lt y x ≡ false → IsLeast x l → IsLeast x (insert_by lt y l)
  least_placed x y [] above least = (above, tt)
  least_placed x y (z ∷ l) above least = go (least_placed x y l above least.1) (cases_Bool (lt z y))
    where
      go : IsLeast x (insert_by lt y l) → (lt z y ≡ true) ⊎ (lt z y ≡ false) → IsLeast x (insert_by lt y (z ∷ l))
      go rest (inl past) = rw past (least.0, rest)
      go rest (inr here) = rw here (above, least)

  pub least_sorted : (x : X) (l : List X) → IsLeast x l → IsLeast x (sort_by lt l)
  least_sorted x [] least = tt
  least_sorted x (y ∷ l) least = least_placed x y (sort_by lt l) least.0 (least_sorted x l least.1)

  least_first : (x : X) (l : List X) → IsLeast x l → insert_by lt x l ≡ x ∷ l
  least_first x [] least = refl
  least_first x (y ∷ l) least = placed_here x y l least.0

  pub sorted_least : (x : X) (l : List X) → IsLeast x l → sort_by lt (x ∷ l) ≡ x ∷ sort_by lt l
  sorted_least x l least = least_first x (sort_by lt l) (least_sorted x l least)
