use Rattle.std.proofs.Common.{◌≡◌, ◌∙◌, ◌-◌, ◌<◌, ◌≤◌, ◌≤ℤ◌, ap, rules, refl, sym, subst}
use Rattle.std.proofs.lemmas.Int.{to_z-of_z}
use Rattle.std.specs.Int.{int_max, int_min, w128}
use Rattle.std.specs.Prelude.{FitsSigned, pos}
use Rattle.tw_figures.specs.Figures.{busy_at, sum_from, value_at, value_of}
use Rattle.tw_figures.proofs.Courses.{course_goes_on, course_settles}
use Rattle.tw_figures.proofs.course.Course.take.Goals as goal

pub returns-then-tick-self-clause-course : goal.returns-then-tick-self-clause-course
returns-then-tick-self-clause-course c from start moves r at said next h =
    let old = c.args.self.now in
    let v = c.value-value.result in
    let fits_value : FitsSigned w128 v = search rules in
    rw (to_z-of_z w128 v fits_value)
    (course_settles from start moves r old v h (subst (λ n. n < old.since) (sym at) c.if-tick-self.true) next (c.value-value.ensures ∙ ap (value_of old.measure) (sym said)))

pub returns-clause-course : goal.returns-clause-course
returns-clause-course c from start moves r at said next h =
    let old = c.args.self.now in
    let v = c.value-value.result in
    let fits_low : FitsSigned w128 c.min-self.result = search rules in
    let fits_high : FitsSigned w128 c.max-self.result = search rules in
    let fits_value : FitsSigned w128 c.value-value.result = search rules in
    let fits_sum : FitsSigned w128 c.in-Some.field-0.sum = search rules in
    let fits_least : FitsSigned w128 old.least = search rules in
    let fits_greatest : FitsSigned w128 old.greatest = search rules in
    let low : c.min-self.result ≡ int_min old.least v = simp to_z-of_z at c.min-self.ensures.value in
    let low1 : c.min-self.result ≤ℤ old.least = simp to_z-of_z at c.min-self.ensures.self_bound in
    let low2 : c.min-self.result ≤ℤ v = simp to_z-of_z at c.min-self.ensures.other_bound in
    let high : c.max-self.result ≡ int_max old.greatest v = simp to_z-of_z at c.max-self.ensures.value in
    let high1 : old.greatest ≤ℤ c.max-self.result = simp to_z-of_z at c.max-self.ensures.self_bound in
    let high2 : v ≤ℤ c.max-self.result = simp to_z-of_z at c.max-self.ensures.other_bound in
    let sum : c.in-Some.field-0.sum ≡ sum_from from (c.args.tick - from) (value_at old.measure start moves) = c.in-Some.ensures.sum from start moves h in
    let busy : pos c.in-Some.field-0.busy ≡ sum_from from (c.args.tick - from) (busy_at old.measure start moves) = c.in-Some.ensures.busy from start moves h in
    rw (to_z-of_z w128 c.min-self.result fits_low, to_z-of_z w128 c.max-self.result fits_high, to_z-of_z w128 v fits_value, to_z-of_z w128 c.in-Some.field-0.sum fits_sum)
    (course_goes_on from start moves r old _ v h (subst (λ n. old.since ≤ n) (sym at) c.if-tick-self.false)
    (c.value-value.ensures ∙ ap (value_of old.measure) (sym said))
    refl (sym at) refl low low1 low2 high high1 high2
    (subst (λ n. c.in-Some.field-0.sum ≡ sum_from from (n - from) (value_at old.measure start moves)) (sym at) sum)
    (subst (λ n. pos c.in-Some.field-0.busy ≡ sum_from from (n - from) (busy_at old.measure start moves)) (sym at) busy))
