-- The root that is rounded down, divided and rounded, is the greatest.
use Rattle.std.proofs.Common.{ℕ, ◌+◌, ◌-◌, ◌*◌, ◌/◌, ◌<◌, ◌≤◌, ⊎_elim, arith}
use Rattle.std.proofs.lemmas.Bool.{cases_lt}
use Rattle.std.proofs.Math.Nat.{div-mul-le_self}
use Rattle.std.proofs.lemmas.Nat.{le-div, mul-le}
use Rattle.tw_figures.specs.Deviations.{IsRoot}

-- what is no greater when it is squared
no_greater : (a r x : ℕ) → a * a ≤ x → x < (r + 1) * (r + 1) → a ≤ r
no_greater a r x small above = ⊎_elim
    (λ less. omega (arith, less))
    (λ more. absurd (let square : (r + 1) * (r + 1) ≤ a * a = mul-le (r + 1) (r + 1) a a more more in omega (arith, square, small, above)))
    (cases_lt a (r + 1))

pub root_is : (spread count r : ℕ) → 0 < count → r * r ≤ 4000000 * spread → 4000000 * spread < (r + 1) * (r + 1) → IsRoot spread count ((r / count + 1) / 2)
root_is spread count r some small above =
    let q = r / count in
    let low : q * count ≤ r = div-mul-le_self r count in
    record {
      within =
          let n = (q + 1) / 2 in
          let odd : 2 * n - 1 ≤ q = omega arith in
          let side : (2 * n - 1) * count ≤ q * count = mul-le (2 * n - 1) count q count odd (omega arith) in
          let all : (2 * n - 1) * count ≤ r = omega (arith, side, low) in
          let square : ((2 * n - 1) * count) * ((2 * n - 1) * count) ≤ r * r = mul-le ((2 * n - 1) * count) ((2 * n - 1) * count) r r all all in
          omega (arith, square, small);
      greatest = λ m h.
          let side : (2 * m - 1) * count ≤ r = no_greater ((2 * m - 1) * count) r (4000000 * spread) h above in
          let odd : 2 * m - 1 ≤ q = le-div (2 * m - 1) r count some side in
          omega (arith, odd);
    }
