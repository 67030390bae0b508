-- Counts that end at a bound multiply.
use Rattle.std.proofs.Common.{◌≡◌, ℕ, zero, suc, ◌+◌, ◌*◌, ◌<◌, ◌≤◌, min, Bool, true, false, refl, ap, ◌∙◌, sym, arith}
use Rattle.std.specs.Prelude.{nat_lt}
use Rattle.std.proofs.lemmas.Bool.{ltb-true, ltb-false}

capped_sum : (x a b : ℕ) (t : Bool) → nat_lt x 262145 ≡ t → (x < 262145 → a ≡ b) → min (min x 262145 + a) 262145 ≡ min (x + b) 262145
capped_sum x a b true e f = let h : x < 262145 = ltb-true x 262145 e in let g : a ≡ b = f h in omega arith
capped_sum x a b false e f = let h : 262145 ≤ x = ltb-false x 262145 e in omega arith

pub capped : (n x : ℕ) → min (n * min x 262145) 262145 ≡ min (n * x) 262145
capped zero x = omega arith
capped (suc n) x =
    let one : suc n * min x 262145 ≡ min x 262145 + n * min x 262145 = omega arith in
    let two : suc n * x ≡ x + n * x = omega arith in
    ap (λ y. min y 262145) one
    ∙ capped_sum x (n * min x 262145) (n * x) (nat_lt x 262145) refl (λ h. ap (λ y. n * y) (omega (arith, h)))
    ∙ ap (λ y. min y 262145) (sym two)
