use Rattle.std.proofs.Common.{◌-◌, rules, subst}
use Rattle.std.specs.Int.{w128}
use Rattle.std.specs.Prelude.{FitsSigned}
use Rattle.std.proofs.lemmas.Int.{to_z-of_z}
use Rattle.tw_figures.specs.Shares.{IsMean, IsShare}
use Rattle.tw_figures.proofs.ToldOf.{told_of}
use Rattle.tw_figures.proofs.course.Course.told.Goals as goal

pub returns : goal.returns
returns c start moves h =
    let course = c.args.self.now in
    let sums = c.in_ok-sums.sums in
    let ticks = c.saturating_sub-ticks.result in
    let fits_least : FitsSigned w128 course.least = search rules in
    let fits_greatest : FitsSigned w128 course.greatest = search rules in
    let fits_last : FitsSigned w128 course.last = search rules in
    let fits_sum : FitsSigned w128 sums.sum = search rules in
    let fits_mean : FitsSigned w128 c.in_ok-mean.field-0 = search rules in
    let fits_busy : FitsSigned w128 c.in_ok-share.field-0 = search rules in
    let mean : IsMean sums.sum course.last ticks c.in_ok-mean.field-0 = simp to_z-of_z at c.in_ok-mean.ensures.is in
    let busy : IsShare sums.busy course.last ticks c.in_ok-share.field-0 = simp to_z-of_z at c.in_ok-share.ensures.is in
    let sum = c.in_ok-sums.ensures.sum c.args.from start moves h in
    let counted = c.in_ok-sums.ensures.busy c.args.from start moves h in
    rw (to_z-of_z w128 course.least fits_least, to_z-of_z w128 course.greatest fits_greatest, to_z-of_z w128 course.last fits_last, to_z-of_z w128 c.in_ok-mean.field-0 fits_mean, to_z-of_z w128 c.in_ok-share.field-0 fits_busy)
    (told_of c.args.from start moves course h (c.args.end - c.args.from) sums c.in_ok-mean.field-0 c.in_ok-share.field-0 sum counted
    (subst (λ n. IsMean sums.sum course.last n c.in_ok-mean.field-0) c.saturating_sub-ticks.ensures mean)
    (subst (λ n. IsShare sums.busy course.last n c.in_ok-share.field-0) c.saturating_sub-ticks.ensures busy))
