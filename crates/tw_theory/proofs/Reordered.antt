-- In which order couplings stand is seen nowhere: where they lead is in order by itself.
use Rattle.std.proofs.Common.{◌≡◌, ℕ, zero, suc, ◌<◌, Bool, true, false, ◌&&◌, ◌==◌, nat_le, List, [], ◌∷◌, length, refl, sym, ap, ◌∙◌, arith, if◌then◌else◌, slice_index_or, slice_set}
use Rattle.std.specs.Cmp.{then_total, on_total, nat_cmp_total}
use Rattle.std.specs.declared.cmp.Ordering.{Ordering}
use Rattle.std.specs.Ordering.{is_le, nat_cmp, ordering_then}
use Rattle.std.specs.List.{swap}
use Rattle.std.specs.List.Sorted.{IsPermutation}
use Rattle.std.proofs.lemmas.List.Sorted.{IsPermutation-keeps}
use Rattle.tw_msgs.proofs.Orders.{lex_le, lex_exact, nat_cmp-exact, nat_le-is}
use Rattle.tw_msgs.proofs.Sorting.{insert_by, insert-comm, Ranks}
use Rattle.tw_theory.specs.Network.{Coupling, Destination, destinations, insert_destination, destination_at_or_before}

-- what an exchange of two neighbours keeps, every other order keeps
module _ {X : Type 0} (R : List X → List X → Type 0)
    (same : (xs : List X) → R xs xs)
    (skip : (x : X) (xs ys : List X) → R xs ys → R (x ∷ xs) (x ∷ ys))
    (turn : (x y : X) (xs : List X) → R (x ∷ y ∷ xs) (y ∷ x ∷ xs))
    (chain : (xs ys zs : List X) → R xs ys → R ys zs → R xs zs) where
  to_head : (l : List X) (j : ℕ) (x d : X) → j < length l → R (x ∷ l) (slice_index_or l j d ∷ slice_set l j x)
  to_head [] j x d h = absurd (omega arith)
  to_head (y ∷ l) zero x d h = turn x y l
  to_head (y ∷ l) (suc j) x d h =
      chain _ _ _ (turn x y l) (chain _ _ _ (skip y _ _ (to_head l j x d (omega arith))) (turn y (slice_index_or l j d) (slice_set l j x)))

  exchanged : (l : List X) (i j : ℕ) (d : X) → i < length l → j < length l → R l (slice_set (slice_set l i (slice_index_or l j d)) j (slice_index_or l i d))
  exchanged [] i j d p q = absurd (omega arith)
  exchanged (x ∷ l) zero zero d p q = same (x ∷ l)
  exchanged (x ∷ l) zero (suc j) d p q = to_head l j x d (omega arith)
  exchanged (x ∷ l) (suc i) zero d p q = to_head l i x d (omega arith)
  exchanged (x ∷ l) (suc i) (suc j) d p q = skip x _ _ (exchanged l i j d (omega arith) (omega arith))

  swapped : (l : List X) (i j : ℕ) → i < length l → j < length l → R l (swap l i j)
  swapped [] i j p q = same []
  swapped (x ∷ l) i j p q = exchanged (x ∷ l) i j x p q

  pub along_permutation : (xs ys : List X) → IsPermutation xs ys → R xs ys
  along_permutation xs = IsPermutation-keeps xs (R xs) (same xs) (λ l i j p q h. chain xs l _ h (swapped l i j p q))

-- ---- destinations

abbrev place_cmp : Destination → Destination → Ordering
place_cmp x y = ordering_then (nat_cmp x.0 y.0) (nat_cmp x.1 y.1)

places_rank : Ranks place_cmp
places_rank = record {
  total = then_total (on_total (λ x. x.0) nat_cmp_total) (on_total (λ x. x.1) nat_cmp_total);
  exact = λ x y e. let p = lex_exact x.0 y.0 (nat_cmp x.1 y.1) e in let v = nat_cmp-exact x.1 y.1 p.1 in λ i. (p.0 i, v i);
}

place_order : (x y : Destination) → destination_at_or_before x y ≡ is_le (place_cmp x y)
place_order x y = lex_le x.0 y.0 (nat_le x.1 y.1) (nat_cmp x.1 y.1) (nat_le-is x.1 y.1)

insert_place-is : (x : Destination) (ys : List Destination) → insert_destination x ys ≡ insert_by place_cmp x ys
insert_place-is x [] = refl
insert_place-is x (y ∷ ys) = λ i. if place_order x y i then x ∷ y ∷ ys else y ∷ insert_place-is x ys i

insert_place-comm : (x y : Destination) (ps : List Destination) → insert_destination x (insert_destination y ps) ≡ insert_destination y (insert_destination x ps)
insert_place-comm x y ps =
    insert_place-is x (insert_destination y ps) ∙ ap (insert_by place_cmp x) (insert_place-is y ps) ∙ insert-comm places_rank x y ps
    ∙ sym (insert_place-is y (insert_destination x ps) ∙ ap (insert_by place_cmp y) (insert_place-is x ps))

-- whether a coupling is of this port of this component
abbrev pub is_of : ℕ → ℕ → Coupling → Bool
is_of c port k = (k.0 == c) && (k.1 == port)

-- where a coupling leads, among other destinations, where it is of the port
abbrev pub placed : ℕ → ℕ → Coupling → List Destination → List Destination
placed c port k ps = if is_of c port k then insert_destination (k.2, k.3) ps else ps

pub placed-comm : (c port : ℕ) (j k : Coupling) (ps : List Destination) → placed c port j (placed c port k ps) ≡ placed c port k (placed c port j ps)
placed-comm c port j k ps = go (is_of c port j) (is_of c port k)
  where
    go : (a b : Bool) → (if a then insert_destination (j.2, j.3) (if b then insert_destination (k.2, k.3) ps else ps) else (if b then insert_destination (k.2, k.3) ps else ps)) ≡ (if b then insert_destination (k.2, k.3) (if a then insert_destination (j.2, j.3) ps else ps) else (if a then insert_destination (j.2, j.3) ps else ps))
    go true true = insert_place-comm (j.2, j.3) (k.2, k.3) ps
    go true false = refl
    go false true = refl
    go false false = refl

pub destinations_permuted : (c port : ℕ) (ks other : List Coupling) → IsPermutation ks other → destinations c port ks ≡ destinations c port other
destinations_permuted c port =
    along_permutation (λ ks other. destinations c port ks ≡ destinations c port other) (λ ks. refl) (λ k ks other e. ap (placed c port k) e)
    (λ j k ks. placed-comm c port j k (destinations c port ks)) (λ ks ls ms e f. e ∙ f)
