use Rattle.std.proofs.Common.{◌≡◌, [], map, take}
use Rattle.std.specs.List.{All}
use Rattle.tw_figures.specs.Figures.{IsCourse}
use Rattle.tw_figures.proofs.member.courses_of.Given as goal

abbrev pub invariant-loop-figure : goal.invariant-loop-figure
invariant-loop-figure l = record {
  courses : All (IsCourse l.from l.words []) l.courses.items;
  measures : map (λ c. c.measure) l.courses.items ≡ map (λ f. f.measure) (take l.figure-index l.figures);
}
