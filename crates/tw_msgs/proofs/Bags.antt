-- Bags in order: the order of items, and the one sorted bag.
use Rattle.std.proofs.Common.{◌≡◌, ◌≤◌, ℕ, ℤ, [], ◌∷◌, int_le, refl, sym, ap, ◌∙◌, subst, if◌then◌else◌, length, arith}
use Rattle.std.specs.Cmp.{then_total, on_total, nat_cmp_total, int_cmp_total}
use Rattle.std.specs.Ordering.{is_le, int_cmp}
use Rattle.std.specs.List.Sorted.{IsPermutation, IsSorted as IsSortedBy}
use Rattle.std.proofs.lemmas.List.Sorted.{IsPermutation-refl}
use Rattle.tw_msgs.specs.Bags.{Bag, IsSorted, by_port, insert_item, sorted_bag, item_cmp}
use Rattle.tw_msgs.proofs.Sorting.{Ranks, RisesBy, insert_by, sort_by, RisesBy-from_IsSorted, only_sorted, sort-IsPermutation, sort_rises, IsSorted-from_RisesBy, sort-permutation}
use Rattle.tw_msgs.proofs.Orders.{lex_le, lex_exact, int_le-is, int_cmp-exact}

pub by_port-is : (x y : ℕ × ℤ) → by_port x y ≡ is_le (item_cmp x y)
by_port-is x y = lex_le x.0 y.0 (int_le x.1 y.1) (int_cmp x.1 y.1) (int_le-is x.1 y.1)

pub items_rank : Ranks item_cmp
items_rank = record {
  total = then_total (on_total (λ x. x.0) nat_cmp_total) (on_total (λ x. x.1) int_cmp_total);
  exact = λ x y e. let p = lex_exact x.0 y.0 (int_cmp x.1 y.1) e in let v = int_cmp-exact x.1 y.1 p.1 in λ i. (p.0 i, v i);
}

insert_item-is : (x : ℕ × ℤ) (ys : Bag) → insert_item x ys ≡ insert_by item_cmp x ys
insert_item-is x [] = refl
insert_item-is x (y ∷ ys) = λ i. if by_port-is x y i then x ∷ y ∷ ys else y ∷ insert_item-is x ys i

sorted_bag-is : (xs : Bag) → sorted_bag xs ≡ sort_by item_cmp xs
sorted_bag-is [] = refl
sorted_bag-is (x ∷ xs) = insert_item-is x (sorted_bag xs) ∙ ap (insert_by item_cmp x) (sorted_bag-is xs)

-- the sorted bag is the one permutation in order
pub sorted_bag-only : (xs ys : Bag) → IsPermutation xs ys → IsSortedBy item_cmp ys → ys ≡ sorted_bag xs
sorted_bag-only xs ys same up = only_sorted items_rank xs ys same (RisesBy-from_IsSorted items_rank ys up) ∙ sym (sorted_bag-is xs)

pub sorted_bag-IsPermutation : (xs : Bag) → IsPermutation xs (sorted_bag xs)
sorted_bag-IsPermutation xs = subst (IsPermutation xs) (sym (sorted_bag-is xs)) (sort-IsPermutation items_rank xs)

pub sorted_bag-IsSortedBy : (xs : Bag) → IsSortedBy item_cmp (sorted_bag xs)
sorted_bag-IsSortedBy xs = subst (IsSortedBy item_cmp) (sym (sorted_bag-is xs)) (IsSorted-from_RisesBy items_rank _ (sort_rises items_rank xs))

-- the order of the definitions is that of the standard library
pub IsSorted-from : (xs : Bag) → IsSortedBy item_cmp xs → IsSorted xs
IsSorted-from xs up = sorted xs (RisesBy-from_IsSorted items_rank xs up)
  where
    sorted : (ys : Bag) → RisesBy item_cmp ys → IsSorted ys
    sorted [] h = tt
    sorted (x ∷ []) h = (tt, tt)
    sorted (x ∷ y ∷ ys) h = (by_port-is x y ∙ h.0, sorted (y ∷ ys) h.1)

pub sorted_bag-sorted : (xs : Bag) → IsSorted (sorted_bag xs)
sorted_bag-sorted xs = IsSorted-from (sorted_bag xs) (sorted_bag-IsSortedBy xs)

pub sorted_bag-permutation : (xs ys : Bag) → IsPermutation xs ys → sorted_bag xs ≡ sorted_bag ys
sorted_bag-permutation xs ys same = sorted_bag-is xs ∙ sort-permutation items_rank xs ys same ∙ sym (sorted_bag-is ys)

-- a sorted bag is its own sorted bag
pub sorted_bag-of_sorted : (xs : Bag) → IsSortedBy item_cmp xs → sorted_bag xs ≡ xs
sorted_bag-of_sorted xs up = sym (sorted_bag-only xs xs (IsPermutation-refl xs) up)

-- a bag of one item at most is in order
pub short-sorted : (xs : Bag) → length xs ≤ 1 → IsSorted xs × (xs ≡ sorted_bag xs)
short-sorted [] l = (tt, refl)
short-sorted (x ∷ []) l = ((tt, tt), refl)
short-sorted (x ∷ y ∷ ys) l = absurd (omega (arith, l))
