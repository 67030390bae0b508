-- What stands behind the front of a list, after an element left.
use Rattle.std.proofs.Common.{◌≡◌, ℕ, zero, suc, ◌+◌, ◌≤◌, List, [], ◌∷◌, drop, length, ap, arith, refl}
use Rattle.std.specs.Prelude.{remove}

remove_behind : {X : Type 0} (f n k : ℕ) (xs : List X) → n ≡ f + k → f ≤ length xs → drop f (remove xs n) ≡ remove (drop f xs) k
remove_behind zero n k xs e le = let same : n ≡ k = omega (arith, e) in ap (remove xs) same
remove_behind (suc f) n k [] e le = absurd (omega (arith, le))
remove_behind (suc f) zero k (x ∷ xs) e le = absurd (omega (arith, e))
remove_behind (suc f) (suc n) k (x ∷ xs) e le = remove_behind f n k xs (omega (arith, e)) (omega (arith, le))

pub drop_remove : {X : Type 0} (f k : ℕ) (xs : List X) → f ≤ length xs → drop f (remove xs (f + k)) ≡ remove (drop f xs) k
drop_remove f k xs le = remove_behind f (f + k) k xs refl le
