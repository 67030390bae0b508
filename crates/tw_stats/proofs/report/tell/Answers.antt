use Rattle.std.proofs.Common.{◌-◌}
use Rattle.tw_stats.specs.Reports.{TellsFigure}
use Rattle.tw_figures.proofs.Zipping.{zip_more_at}
use Rattle.tw_stats.proofs.report.tell.Goals as goal

pub loop-course-preserved : goal.loop-course-preserved
loop-course-preserved c =
    zip_more_at (TellsFigure c.args.from (c.args.end - c.args.from)) c.args.courses.now c.loop-course.figures.items c.loop-course.course-index _ c.in-Some.told _
    c.loop-course-test.true c.in_ok-push.ensures.items c.loop-course.invariant (record { tells = λ start moves h. c.in-Some.ensures start moves h })
