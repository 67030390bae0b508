-- Totals of a list's weights: joined lists, and the same things in another order.
use Rattle.std.proofs.Common.{◌≡◌, ℕ, ◌+◌, List, [], ◌∷◌, ◌++◌, refl, sym, ap, ◌∙◌, arith}
use Rattle.std.specs.List.{sum_by}
use Rattle.std.specs.List.Sorted.{IsPermutation}
use Rattle.std.proofs.lemmas.List.Sums.{sum_by-cons}
use Rattle.std.proofs.lemmas.List.Sorted.{sum_by-IsPermutation}
use Rattle.tw_msgs.specs.Counting.{total}

pub total-append : {X : Type 0} (weight : X → ℕ) (xs ys : List X) → total weight (xs ++ ys) ≡ total weight xs + total weight ys
total-append weight [] ys = omega arith
total-append weight (x ∷ xs) ys = let ih = total-append weight xs ys in omega (arith, ih)

pub total-sum_by : {X : Type 0} (weight : X → ℕ) (xs : List X) → total weight xs ≡ sum_by weight xs
total-sum_by weight [] = refl
total-sum_by weight (x ∷ xs) = ap (λ n. weight x + n) (total-sum_by weight xs) ∙ sym (sum_by-cons weight x xs)

pub total-permutation : {X : Type 0} (weight : X → ℕ) (xs ys : List X) → IsPermutation xs ys → total weight ys ≡ total weight xs
total-permutation weight xs ys h = total-sum_by weight ys ∙ sum_by-IsPermutation weight xs ys h ∙ sym (total-sum_by weight xs)
