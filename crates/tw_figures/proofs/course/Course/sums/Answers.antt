use Rattle.std.proofs.Common.{◌≡◌, ◌∙◌, ◌-◌, ◌+ℤ◌, ◌*ℤ◌, pos, rules}
use Rattle.std.proofs.lemmas.Int.{to_z-of_z}
use Rattle.std.specs.Int.{w128}
use Rattle.std.specs.Prelude.{FitsSigned}
use Rattle.tw_figures.specs.Figures.{one_if_some}
use Rattle.tw_figures.proofs.Courses.{sum_on, busy_on}
use Rattle.tw_figures.proofs.course.Course.sums.Goals as goal

pub returns-clause-sum : goal.returns-clause-sum
returns-clause-sum c from start moves h =
    let fits : FitsSigned w128 c.in_ok-sum.sum = search rules in
    let fits_sum : FitsSigned w128 c.args.self.now.sum = search rules in
    let fits_last : FitsSigned w128 c.args.self.now.last = search rules in
    let on : c.in_ok-sum.sum ≡ c.args.self.now.sum +ℤ pos (c.args.tick - c.args.self.now.since) *ℤ c.args.self.now.last = simp to_z-of_z at c.in_ok-sum.ensures in
    rw (to_z-of_z w128 c.in_ok-sum.sum fits) (on ∙ sum_on from start moves c.args.self.now h c.args.tick c.requires)

pub returns-clause-busy : goal.returns-clause-busy
returns-clause-busy c from start moves h =
    let fits_last : FitsSigned w128 c.args.self.now.last = search rules in
    let on : pos c.in_ok-busy.busy ≡ pos c.args.self.now.busy +ℤ pos (c.args.tick - c.args.self.now.since) *ℤ one_if_some c.args.self.now.last = simp to_z-of_z at c.in_ok-busy.ensures in
    on ∙ busy_on from start moves c.args.self.now h c.args.tick c.requires
