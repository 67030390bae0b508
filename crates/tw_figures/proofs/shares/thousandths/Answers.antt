use Rattle.std.proofs.Common.{◌≡◌, ◌∙◌, ◌*◌, ◌+ℤ◌, ◌*ℤ◌, pos, rules, sym, subst}
use Rattle.std.proofs.lemmas.Int.{to_z-of_z}
use Rattle.std.specs.Int.{int_div_euclid, w128}
use Rattle.std.specs.Prelude.{FitsSigned}
use Rattle.tw_figures.specs.Shares.{IsThousandths}
use Rattle.tw_figures.proofs.Rounding.{thousandths_are}
use Rattle.tw_figures.proofs.shares.thousandths.Goals as goal

pub returns-clause-is : goal.returns-clause-is
returns-clause-is c =
    let fits : FitsSigned w128 c.div_euclid.result = search rules in
    let fits_all : FitsSigned w128 c.in_ok-half_more.field-0 = search rules in
    let fits_twice : FitsSigned w128 c.twice.result = search rules in
    let fits_sum : FitsSigned w128 c.args.sum = c.ranges.sum in
    let scaled : c.in_ok-half_more.field-0 ≡ pos 2000 *ℤ c.args.sum +ℤ pos c.args.ticks = simp to_z-of_z at c.in_ok-half_more.ensures.is in
    let whole : c.div_euclid.result ≡ int_div_euclid c.in_ok-half_more.field-0 c.twice.result = simp to_z-of_z at c.div_euclid.ensures in
    let is : c.div_euclid.result ≡ int_div_euclid (pos 2000 *ℤ c.args.sum +ℤ pos c.args.ticks) (pos (2 * c.args.ticks)) =
    whole ∙ (λ i. int_div_euclid (scaled i) (c.twice.ensures i)) in
    rw (to_z-of_z w128 c.div_euclid.result fits) (subst (IsThousandths c.args.sum c.args.ticks) (sym is) (thousandths_are c.args.sum c.args.ticks c.requires))
