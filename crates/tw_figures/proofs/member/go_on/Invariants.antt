use Rattle.tw_figures.proofs.Gone.{AreGoing}
use Rattle.tw_figures.proofs.member.go_on.Given as goal

abbrev pub invariant-loop-course : goal.invariant-loop-course
invariant-loop-course l = AreGoing l.tick l.words l.fn.courses l.courses l.course-index
