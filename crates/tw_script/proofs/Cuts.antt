-- A text is cut at the first place of a byte in one way; which words are free of one.
use Rattle.std.proofs.Common.{◌≡◌, ◌≢◌, ◌++◌, ◌∷◌, [], ℕ, zero, suc, List, length, get_or, refl, sym, ap, ap₂}
use Rattle.std.proofs.Common.{arith}
use Rattle.tw_script.specs.Words.{IsFree}

head_is : {x y : ℕ} {xs ys : List ℕ} → x ∷ xs ≡ y ∷ ys → x ≡ y
head_is e = ap (λ l. get_or l 0 0) e

abbrev tail_of : List ℕ → List ℕ
tail_of [] = []
tail_of (x ∷ xs) = xs

tail_is : {x y : ℕ} {xs ys : List ℕ} → x ∷ xs ≡ y ∷ ys → xs ≡ ys
tail_is e = ap tail_of e

free_tail : (c x : ℕ) (xs : List ℕ) → IsFree c (x ∷ xs) → IsFree c xs
free_tail c x xs h i l = h (suc i) (omega (arith, l))

pub cut_once : (c : ℕ) (xs ys us vs : List ℕ) → IsFree c xs → IsFree c us → xs ++ c ∷ ys ≡ us ++ c ∷ vs → (xs ≡ us) × (ys ≡ vs)
cut_once c [] ys [] vs f g e = (refl, tail_is e)
cut_once c [] ys (u ∷ us) vs f g e = absurd (g 0 (omega arith) (sym (head_is e)))
cut_once c (x ∷ xs) ys [] vs f g e = absurd (f 0 (omega arith) (head_is e))
cut_once c (x ∷ xs) ys (u ∷ us) vs f g e =
    let rest = cut_once c xs ys us vs (free_tail c x xs f) (free_tail c u us g) (tail_is e) in
    (ap₂ (λ b bs. b ∷ bs) (head_is e) rest.0, rest.1)

pub free_append : (c : ℕ) (xs ys : List ℕ) → IsFree c xs → IsFree c ys → IsFree c (xs ++ ys)
free_append c [] ys f g i l = g i l
free_append c (x ∷ xs) ys f g zero l = f 0 (omega arith)
free_append c (x ∷ xs) ys f g (suc i) l = free_append c xs ys (free_tail c x xs f) g i (omega (arith, l))

pub free_cons : (c x : ℕ) (xs : List ℕ) → x ≢ c → IsFree c xs → IsFree c (x ∷ xs)
free_cons c x xs n f zero l = n
free_cons c x xs n f (suc i) l = f i (omega (arith, l))

pub free_none : (c : ℕ) → IsFree c []
free_none c i l = absurd (omega (arith, l))

-- a word without the byte is not cut at it
pub no_cut : (c : ℕ) (xs ys word : List ℕ) → word ≡ xs ++ c ∷ ys → IsFree c word → ⊥
no_cut c [] ys [] e f = omega (arith, ap length e)
no_cut c [] ys (w ∷ ws) e f = f 0 (omega arith) (head_is e)
no_cut c (x ∷ xs) ys [] e f = omega (arith, ap length e)
no_cut c (x ∷ xs) ys (w ∷ ws) e f = no_cut c xs ys ws (tail_is e) (free_tail c w ws f)
