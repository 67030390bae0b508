-- The front of a list that grows.
use Rattle.std.proofs.Common.{◌≡◌, ℕ, zero, suc, ◌≤◌, List, [], ◌∷◌, ◌++◌, length, take, refl, ap, sym, ◌∙◌, arith}
use Rattle.std.proofs.lemmas.List.{append-nil, take_all}

pub take_again : {A : Type 0} (n : ℕ) (xs ys : List A) → take n (take n xs ++ ys) ≡ take n (xs ++ ys)
take_again zero xs ys = refl
take_again (suc n) [] ys = refl
take_again (suc n) (x ∷ xs) ys = ap (λ zs. x ∷ zs) (take_again n xs ys)

pub take_full : {A : Type 0} (n : ℕ) (xs ys : List A) → length xs ≡ n → take n (xs ++ ys) ≡ xs
take_full zero [] ys full = refl
take_full zero (x ∷ xs) ys full = absurd (omega (arith, full))
take_full (suc n) [] ys full = absurd (omega (arith, full))
take_full (suc n) (x ∷ xs) ys full = ap (λ zs. x ∷ zs) (take_full n xs ys (omega (arith, full)))

pub nothing_more : {A : Type 0} (xs ys : List A) → length xs ≤ 64 → ys ≡ [] → xs ≡ take 64 (xs ++ ys)
nothing_more xs ys few none = sym (ap (λ zs. take 64 (xs ++ zs)) none ∙ ap (take 64) (append-nil xs) ∙ take_all 64 xs few)
