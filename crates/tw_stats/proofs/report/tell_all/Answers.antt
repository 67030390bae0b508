use Rattle.std.proofs.Common.{◌-◌, List, refl, subst}
use Rattle.std.specs.List.{AllZip}
use Rattle.tw_figures.specs.declared.course.Course.{Course}
use Rattle.tw_figures.specs.declared.watch.Watch.{Watch}
use Rattle.tw_stats.specs.Reports.{TellsFigure, TellsObservation, TellsPart}
use Rattle.tw_figures.proofs.Zipping.{zip_more}
use Rattle.tw_stats.proofs.report.tell_all.Goals as goal

pub loop-member-preserved : goal.loop-member-preserved
loop-member-preserved c =
    zip_more (TellsPart c.args.from (c.args.end - c.args.from)) c.args.members.now c.loop-member.parts.items c.loop-member.member-index c.member-item.result _ _
    c.loop-member-test.true c.member-item.is c.in_ok-push.ensures.items c.loop-member.invariant
    (record {
      counts = refl;
      figures = subst (λ (l : List Course). AllZip (TellsFigure c.args.from (c.args.end - c.args.from)) l c.in_ok-tell.field-0.items) c.as_slice.ensures.value c.in_ok-tell.ensures;
      observations = subst (λ (l : List Watch). AllZip TellsObservation l c.in_ok-observe.field-0.items) c.as_slice-in-loop-member.ensures.value c.in_ok-observe.ensures;
    })
