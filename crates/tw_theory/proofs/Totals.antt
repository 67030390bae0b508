-- Sums of weights, over lists that change at one place.
use Rattle.std.proofs.Common.{◌≡◌, ℕ, zero, suc, ◌+◌, List, [], ◌∷◌, replicate, Bool, true, false, cond, Some, refl, ap, arith}
use Rattle.std.specs.Prelude.{slice_get, slice_set, remove}
use Rattle.std.proofs.lemmas.Option.{same_Some, none-some}
use Rattle.tw_msgs.specs.Counting.{total, when_positive, when_anti}
use Rattle.tw_msgs.specs.declared.message.Message.{Message}
use Rattle.tw_theory.specs.Bundles.{positives, antis}

pub total-replicate : {X : Type 0} (weight : X → ℕ) (n : ℕ) (x : X) → weight x ≡ 0 → total weight (replicate n x) ≡ 0
total-replicate weight zero x e = refl
total-replicate weight (suc n) x e = omega (arith, e, total-replicate weight n x e)

pub total-set : {X : Type 0} (weight : X → ℕ) (xs : List X) (i : ℕ) (x y : X) → slice_get xs i ≡ Some x
    → total weight (slice_set xs i y) + weight x ≡ total weight xs + weight y
total-set weight [] i x y e = absurd (none-some x e)
total-set weight (z ∷ xs) zero x y e = omega (arith, ap weight (same_Some z x e))
total-set weight (z ∷ xs) (suc i) x y e = omega (arith, total-set weight xs i x y e)

pub total-remove : {X : Type 0} (weight : X → ℕ) (xs : List X) (i : ℕ) (x : X) → slice_get xs i ≡ Some x
    → total weight (remove xs i) + weight x ≡ total weight xs
total-remove weight [] i x e = absurd (none-some x e)
total-remove weight (z ∷ xs) zero x e = omega (arith, ap weight (same_Some z x e))
total-remove weight (z ∷ xs) (suc i) x e = omega (arith, total-remove weight xs i x e)

-- ---- items made of messages

pub positive-positives : (weight : Message → ℕ) (ms : List Message) → total (when_positive weight) (positives ms) ≡ total weight ms
positive-positives weight [] = refl
positive-positives weight (m ∷ ms) = omega (arith, positive-positives weight ms)

pub anti-positives : (weight : Message → ℕ) (ms : List Message) → total (when_anti weight) (positives ms) ≡ 0
anti-positives weight [] = refl
anti-positives weight (m ∷ ms) = omega (arith, anti-positives weight ms)

pub positive-antis : (weight : Message → ℕ) (ms : List Message) → total (when_positive weight) (antis ms) ≡ 0
positive-antis weight [] = refl
positive-antis weight (m ∷ ms) = omega (arith, positive-antis weight ms)

pub anti-antis : (weight : Message → ℕ) (ms : List Message) → total (when_anti weight) (antis ms) ≡ total weight ms
anti-antis weight [] = refl
anti-antis weight (m ∷ ms) = omega (arith, anti-antis weight ms)

-- ---- a message put in its place, or taken out

placed_total : (weight : Message → ℕ) (b : Bool) (m n : Message) (ns rest : List Message) → total weight rest ≡ total weight ns + weight m
    → total weight (cond b (m ∷ n ∷ ns) (n ∷ rest)) ≡ weight n + total weight ns + weight m
placed_total weight true m n ns rest e = omega arith
placed_total weight false m n ns rest e = omega (arith, e)
