use Rattle.std.proofs.Common.{◌≡◌, ◌∙◌, ◌-◌, List, map, ap, refl, subst, sym, arith}
use Rattle.std.specs.List.{AllZip}
use Rattle.tw_figures.specs.Gathered.{IsGathered}
use Rattle.tw_figures.specs.Labelled.{label}
use Rattle.tw_figures.specs.declared.member.Member.{Member}
use Rattle.tw_stats.specs.Gathering.{run_ticks}
use Rattle.tw_stats.specs.Reports.{AreTold, TellsPart, first_tick}
use Rattle.tw_stats.proofs.Telling.{all_told}
use Rattle.tw_stats.proofs.report.report_on.Goals as goal

pub returns-clause-report : goal.returns-clause-report
returns-clause-report c starts records fault labels many is =
    let whole = c.args.gathering.now in
    let first = c.unwrap_or-first.result in
    let ticks = c.max-end.result - first in
    let here : first ≡ first_tick c.args.from = c.unwrap_or-first.ensures in
    let gathered = subst (λ n. IsGathered n starts records whole.gathered) (sym here) is.gathered in
    let tells = subst (λ (l : List Member). AllZip (TellsPart first ticks) l c.in_ok-parts.parts.items) c.as_slice.ensures.value c.in_ok-parts.ensures in
    let parts = all_told first labels starts records ticks whole.gathered c.in_ok-parts.parts.items many gathered is.followed tells in
    let time : ticks ≡ run_ticks c.args.until fault - first = (let latest = c.max-end.ensures in let end = is.ticks in omega (arith, latest, end)) in
    record {
      parts = subst (λ n. AreTold n (map label labels) starts records ticks c.in_ok-parts.parts.items) here parts;
      begin = refl;
      end = refl;
      ticks = time ∙ ap (λ n. run_ticks c.args.until fault - n) here;
      records = is.gathered.counted.records;
      microsteps = is.gathered.counted.microsteps;
      fault = is.fault;
    }
