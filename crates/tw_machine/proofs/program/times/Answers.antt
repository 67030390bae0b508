-- Bounds that are capped multiply.
use Rattle.std.proofs.Common.{rules, ◌≡◌, ℕ, zero, suc, ◌+◌, ◌*◌, ◌<◌, ◌≤◌, min, Bool, true, false, refl, ap, ◌∙◌, sym, arith}
use Rattle.std.specs.Prelude.{nat_lt}
use Rattle.std.proofs.lemmas.Bool.{ltb-true, ltb-false}
use Rattle.tw_machine.specs.Undoing.{needs}
use Rattle.tw_machine.proofs.program.times.Goals as goal

capped-sum : (x a b : ℕ) (t : Bool) → nat_lt x 1048576 ≡ t → (x < 1048576 → a ≡ b) → min (min x 1048576 + a) 1048576 ≡ min (x + b) 1048576
capped-sum x a b true e f = let h : x < 1048576 = ltb-true x 1048576 e in let g : a ≡ b = f h in omega arith
capped-sum x a b false e f = let h : 1048576 ≤ x = ltb-false x 1048576 e in omega arith

capped : (n x : ℕ) → min (n * min x 1048576) 1048576 ≡ min (n * x) 1048576
capped zero x = omega arith
capped (suc n) x =
    let one : suc n * min x 1048576 ≡ min x 1048576 + n * min x 1048576 = omega arith in
    let two : suc n * x ≡ x + n * x = omega arith in
    ap (λ y. min y 1048576) one
    ∙ capped-sum x (n * min x 1048576) (n * x) (nat_lt x 1048576) refl (λ h. ap (λ y. n * y) (omega (arith, h)))
    ∙ ap (λ y. min y 1048576) (sym two)

pub returns-clause-value : goal.returns-clause-value
returns-clause-value c =
    let is : c.min.result ≡ min (c.args.count * c.args.each) 1048576 = search rules in
    is ∙ ap (λ y. min (c.args.count * y) 1048576) c.requires ∙ capped c.args.count (needs c.args.inner.now)
