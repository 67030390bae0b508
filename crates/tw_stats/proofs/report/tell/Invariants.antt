use Rattle.std.proofs.Common.{◌-◌, take}
use Rattle.std.specs.List.{AllZip}
use Rattle.tw_stats.specs.Reports.{TellsFigure}
use Rattle.tw_stats.proofs.report.tell.Given as goal

abbrev pub invariant-loop-course : goal.invariant-loop-course
invariant-loop-course l = AllZip (TellsFigure l.from (l.end - l.from)) (take l.course-index l.courses) l.figures.items
