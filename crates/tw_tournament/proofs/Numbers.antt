-- The numbers of those that are at a time.
use Rattle.std.proofs.Common.{◌≡◌, ◌≢◌, ◌⊎◌, ◌+◌, ◌<◌, ◌++◌, ◌∷◌, [], ℕ, suc, Bool, true, false, List, length, get_or, refl, ap, ◌∙◌, inl, inr, arith, rules, if◌then◌else◌, ◌==◌}
use Rattle.std.proofs.lemmas.Bool.{cases_eq}
use Rattle.tw_tournament.specs.Times.{numbers_at}

-- a first one, if it is at the time
by_first : (b : Bool) (c : ℕ) (all some more : List ℕ) → all ≡ some ++ more
    → (if b then c ∷ all else all) ≡ (if b then c ∷ some else some) ++ more
by_first true c all some more is = ap (λ ns. c ∷ ns) is
by_first false c all some more is = is

pub numbers_append : (t c : ℕ) (xs ys : List ℕ) → numbers_at t c (xs ++ ys) ≡ numbers_at t c xs ++ numbers_at t (c + length xs) ys
numbers_append t c [] ys = let same : c ≡ c + 0 = omega arith in ap (λ d. numbers_at t d ys) same
numbers_append t c (x ∷ xs) ys =
    let same : suc c + length xs ≡ c + suc (length xs) = omega arith in
    by_first (x == t) c _ _ _ (numbers_append t (suc c) xs ys ∙ ap (λ d. numbers_at t (suc c) xs ++ numbers_at t d ys) same)

not_first : (x t c : ℕ) (rest : List ℕ) → rest ≡ [] → (x ≡ t) ⊎ (x ≢ t) → (x ≢ t) → (if x == t then c ∷ rest else rest) ≡ []
not_first x t c rest is (inl same) not = absurd (not same)
not_first x t c rest is (inr other) not = search (rules, other, is)

-- none is at it
pub numbers_none : (t c : ℕ) (xs : List ℕ) → ((i : ℕ) → i < length xs → get_or xs i t ≢ t) → numbers_at t c xs ≡ []
numbers_none t c [] none = refl
numbers_none t c (x ∷ xs) none =
    not_first x t c (numbers_at t (suc c) xs) (numbers_none t (suc c) xs (λ i near. none (suc i) (omega arith))) (cases_eq x t) (none 0 (omega arith))
