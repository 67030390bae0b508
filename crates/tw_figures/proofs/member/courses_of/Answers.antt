use Rattle.std.proofs.Common.{◌∙◌, [], map, ap, sym, subst}
use Rattle.std.specs.List.{All}
use Rattle.tw_figures.specs.Figures.{IsCourse}
use Rattle.tw_figures.proofs.Members.{all_more, shown_more}
use Rattle.tw_figures.proofs.member.courses_of.Goals as goal

pub loop-figure-preserved : goal.loop-figure-preserved
loop-figure-preserved c = record {
  courses = subst (All (IsCourse c.args.from c.args.words.now [])) (sym c.in_ok-push.ensures.items) (all_more (IsCourse c.args.from c.args.words.now []) _ c.new.result c.loop-figure.invariant.courses c.new.ensures.course);
  measures = ap (map (λ x. x.measure)) c.in_ok-push.ensures.items
      ∙ shown_more (λ x. x.measure) (λ f. f.measure) c.loop-figure.courses.items c.args.figures.now c.loop-figure.figure-index c.new.result c.figure-item.result c.loop-figure-test.true c.figure-item.is c.new.ensures.measure c.loop-figure.invariant.measures;
}
