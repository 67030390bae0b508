use Rattle.std.proofs.Common.{rules}
use Rattle.std.proofs.lemmas.Int.{to_z-of_z}
use Rattle.std.specs.Int.{w128}
use Rattle.std.specs.Prelude.{FitsSigned}
use Rattle.tw_figures.proofs.Courses.{course_begins}
use Rattle.tw_figures.proofs.course.Course.new.Goals as goal

pub returns-clause-course : goal.returns-clause-course
returns-clause-course c =
    let fits : FitsSigned w128 c.value-value.result = search rules in
    rw (to_z-of_z w128 c.value-value.result fits) (course_begins c.args.from c.args.measure c.args.words.now c.value-value.result c.value-value.ensures)
