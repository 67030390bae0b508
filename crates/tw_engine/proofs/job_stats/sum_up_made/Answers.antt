use Rattle.std.proofs.Common.{◌∙◌, ap, length, map, subst, sym}
use Rattle.std.proofs.lemmas.List.{length-map}
use Rattle.serde_json.specs.View.{view}
use Rattle.tw_any_model.specs.AnyModel.{any_meaning}
use Rattle.tw_engine.proofs.Viewed.{as_many, summed_by}
use Rattle.tw_engine.specs.Views.{IsReportWritten, summary_of}
use Rattle.tw_figure_names.specs.Said.{labels_said}
use Rattle.tw_figures.specs.Labelled.{label}
use Rattle.tw_network.specs.Contents.{network_of}
use Rattle.tw_stats.specs.Reports.{IsReport}
use Rattle.tw_engine.proofs.job_stats.sum_up_made.Goals as goal

pub report_of_made-requires-clause-labels : goal.report_of_made-requires-clause-labels
report_of_made-requires-clause-labels g c =
    let n = c.args.made.now.network.now in
    ap length c.as_slice-labels.ensures.value ∙ sym (length-map c.in_ok-labels.labels.items label)
    ∙ ap length c.in_ok-labels.ensures ∙ as_many (view c.args.made.now.value.now) n.models

pub returns : goal.returns
returns g c =
    let n = c.args.made.now.network.now in
    let s = summary_of c.args.summary.now in
    let old = g.W.Write.contents c.args.out.now in
    let new = g.W.Write.contents c.write_up.new.out in
    let report = c.in_ok-report.report in
    let same = ap (map label) c.as_slice-labels.ensures.value ∙ c.in_ok-labels.ensures in
    summed_by n (labels_said (view c.args.made.now.value.now) n.models) s c.args.shown.now report c.write_up.result old new c.requires.shown
    (subst (λ ls. IsReport (network_of any_meaning n) s.from s.until ls report) same c.in_ok-report.ensures.report)
    (subst (λ ls. IsReportWritten n ls c.args.shown.now s.json report c.write_up.result old new) same c.write_up.ensures)
