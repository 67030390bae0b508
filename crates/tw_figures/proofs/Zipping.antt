-- Two lists, something of each element of the one in the other.
use Rattle.std.proofs.Common.{◌≡◌, ◌∙◌, ℕ, zero, suc, ◌<◌, ◌+◌, ◌++◌, ◌∷◌, [], List, take, length, get_or, ap, sym, subst, arith}
use Rattle.std.specs.Prelude.{Some, slice_get}
use Rattle.std.specs.List.{AllZip}
use Rattle.std.proofs.lemmas.List.{get_or_default, take_more}
use Rattle.std.proofs.lemmas.Option.{slice_get_within}

zip_push : {X Y : Type 0} (R : X → Y → Type 0) (xs : List X) (ys : List Y) (x : X) (y : Y) → AllZip R xs ys → R x y → AllZip R (xs ++ x ∷ []) (ys ++ y ∷ [])
zip_push R [] [] x y h r = (r, tt)
zip_push R [] (b ∷ ys) x y h r = absurd h
zip_push R (a ∷ xs) [] x y h r = absurd h
zip_push R (a ∷ xs) (b ∷ ys) x y h r = (h.0, zip_push R xs ys x y h.1 r)

-- one more of a list, of which something is told
pub zip_more : {X Y : Type 0} (R : X → Y → Type 0) (xs : List X) (ys : List Y) (i : ℕ) (x : X) (y : Y) (more : List Y) → i < length xs → x ≡ get_or xs i x → more ≡ ys ++ y ∷ []
    → AllZip R (take i xs) ys → R x y → AllZip R (take (i + 1) xs) more
zip_more {X} {Y} R xs ys i x y more l is grown h r =
    subst (λ (m : List Y). AllZip R (take (i + 1) xs) m) (sym grown)
    (subst (λ (t : List X). AllZip R t (ys ++ y ∷ [])) (ap (λ z. take i xs ++ z ∷ []) is ∙ sym (take_more xs i x l)) (zip_push R (take i xs) ys x y h r))

-- the same, of the element at a place as it is read
pub zip_more_at : {X Y : Type 0} (R : X → Y → Type 0) (xs : List X) (ys : List Y) (i : ℕ) (d : X) (y : Y) (more : List Y) → i < length xs → more ≡ ys ++ y ∷ []
    → AllZip R (take i xs) ys → R (get_or xs i d) y → AllZip R (take (i + 1) xs) more
zip_more_at R xs ys i d y more l grown h r = zip_more R xs ys i (get_or xs i d) y more l (get_or_default xs i d (get_or xs i d) l) grown h r

-- what is told at a place
pub zip_at : {X Y : Type 0} (R : X → Y → Type 0) (xs : List X) (ys : List Y) (c : ℕ) (x : X) (y : Y) → AllZip R xs ys → slice_get xs c ≡ Some x → slice_get ys c ≡ Some y → R x y
zip_at R [] [] c x y h p q = absurd (let l = slice_get_within [] c x p in omega (arith, l))
zip_at R [] (b ∷ ys) c x y h p q = absurd h
zip_at R (a ∷ xs) [] c x y h p q = absurd h
zip_at {X} {Y} R (a ∷ xs) (b ∷ ys) zero x y h p q = (let e : a ≡ x = cc in let f : b ≡ y = cc in subst (λ (z : X). R z y) e (subst (λ (z : Y). R a z) f h.0))
zip_at R (a ∷ xs) (b ∷ ys) (suc c) x y h p q = zip_at R xs ys c x y h.1 p q
