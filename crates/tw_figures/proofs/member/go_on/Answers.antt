use Rattle.std.proofs.Common.{refl, arith}
use Rattle.tw_figures.proofs.Gone.{going_on, gone_all, measures_kept}
use Rattle.tw_figures.proofs.member.go_on.Goals as goal

pub loop-course-init : goal.loop-course-init
loop-course-init c = record { size = refl; measures = refl; gone = λ k d l. absurd (omega arith); rest = λ k d l. refl }

pub returns-in_err-take-clause-measures : goal.returns-in_err-take-clause-measures
returns-in_err-take-clause-measures c =
    measures_kept c.args.tick c.args.words.now c.args.courses.now c.loop-course.courses c.loop-course.course-index c.loop-course.invariant c.take.new.self _ c.take.ensures.measure

pub loop-course-preserved : goal.loop-course-preserved
loop-course-preserved c =
    going_on c.args.tick c.args.words.now c.args.courses.now c.loop-course.courses c.loop-course.course-index c.loop-course.invariant c.take.new.self _
    c.loop-course-test.true c.take.ensures.measure (record { course = λ from start moves r at said next h. c.in_ok-take.ensures.course from start moves r at said next h })

pub returns-clause-courses : goal.returns-clause-courses
returns-clause-courses c from start moves r at said next all =
    gone_all c.args.tick c.args.words.now c.args.courses.now c.loop-course.courses c.loop-course.course-index c.loop-course.invariant c.loop-course-test.false from start moves r at said next all
