-- The quotient that is rounded down is the greatest.
use Rattle.std.proofs.Common.{ℕ, suc, ◌+◌, ◌*◌, ◌/◌, ◌<◌, ◌≤◌, ℤ, pos, ◌+ℤ◌, ◌*ℤ◌, ◌≤ℤ◌, sym, subst, arith}
use Rattle.std.specs.Int.{int_div_euclid}
use Rattle.std.specs.Prelude.{negsuc}
use Rattle.std.proofs.Math.IntN.{pos-*ℤ-pos, pos-*ℤ-negsuc}
use Rattle.std.proofs.Math.Nat.{mul-div-le, lt-mul-div-succ, div-lt_iff_lt-mul}
use Rattle.std.proofs.lemmas.Int.{ints}
use Rattle.std.proofs.lemmas.Nat.{le-div}
use Rattle.tw_figures.specs.Shares.{IsThousandths}

quotient_within : (b : ℕ) (a : ℤ) → 0 < b → (pos b *ℤ int_div_euclid a (pos b)) ≤ℤ a
quotient_within b (pos x) some = subst (λ z. z ≤ℤ pos x) (sym (pos-*ℤ-pos b (x / b))) (let low : b * (x / b) ≤ x = mul-div-le x b in omega (arith, ints, low))
quotient_within b (negsuc x) some = subst (λ z. z ≤ℤ negsuc x) (sym (pos-*ℤ-negsuc b (x / b))) (let up : x < b * (x / b + 1) = lt-mul-div-succ x some in omega (arith, ints, up))

quotient_greatest : (b : ℕ) (a m : ℤ) → 0 < b → (pos b *ℤ m) ≤ℤ a → m ≤ℤ int_div_euclid a (pos b)
quotient_greatest b (pos x) (pos y) some h =
    let h' = subst (λ z. z ≤ℤ pos x) (pos-*ℤ-pos b y) h in
    let low : y * b ≤ x = omega (arith, ints, h') in
    let up : y ≤ x / b = le-div y x b some low in
    omega (arith, ints, up)
quotient_greatest b (pos x) (negsuc y) some h = omega (arith, ints)
quotient_greatest b (negsuc x) (pos y) some h =
    let h' = subst (λ z. z ≤ℤ negsuc x) (pos-*ℤ-pos b y) h in
    absurd (omega (arith, ints, h'))
quotient_greatest b (negsuc x) (negsuc y) some h =
    let h' = subst (λ z. z ≤ℤ negsuc x) (pos-*ℤ-negsuc b y) h in
    let low : x < suc y * b = omega (arith, ints, h') in
    let up : x / b < suc y = (div-lt_iff_lt-mul some).1 low in
    omega (arith, ints, up)

pub thousandths_are : (sum : ℤ) (ticks : ℕ) → 0 < ticks → IsThousandths sum ticks (int_div_euclid (pos 2000 *ℤ sum +ℤ pos ticks) (pos (2 * ticks)))
thousandths_are sum ticks some = record {
  within = quotient_within (2 * ticks) (pos 2000 *ℤ sum +ℤ pos ticks) (omega arith);
  greatest = λ m. quotient_greatest (2 * ticks) (pos 2000 *ℤ sum +ℤ pos ticks) m (omega arith);
}
