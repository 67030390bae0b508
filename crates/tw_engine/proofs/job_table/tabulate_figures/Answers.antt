use Rattle.std.proofs.Common.{◌∙◌, List, ap, map, subst}
use Rattle.std.specs.Io.KnownBytes.{Appends}
use Rattle.std.specs.Prelude.{Bool}
use Rattle.serde_json.specs.View.{view}
use Rattle.tw_engine.proofs.Passing.{on_err}
use Rattle.tw_engine.proofs.Viewed.{table_short, tabulated}
use Rattle.tw_engine.specs.Ends.{failed_of}
use Rattle.tw_engine.specs.Views.{IsTabulatedOf, figures_table, tabulation_of}
use Rattle.tw_figure_names.specs.Said.{labels_said}
use Rattle.tw_figures.specs.Labelled.{label}
use Rattle.tw_texts.specs.Refusals.{not_written_refusal}
use Rattle.tw_texts.specs.Traces.{AppendsBeginning}
use Rattle.tw_engine.proofs.job_table.tabulate_figures.Goals as goal

pub returns : goal.returns
returns g c =
    let n = c.args.file.now.network in
    let t = tabulation_of c.args.asked.now.tabulation.now in
    let said = labels_said (view c.args.file.now.value) n.models in
    let table = λ (l : List Bool). figures_table n said l t.from t.until in
    let old = g.W.Write.contents c.args.out.now in
    let new = g.W.Write.contents c.write_figures.new.out in
    let shown = c.args.asked.now.shown.now in
    let same = ap (map label) c.as_slice.ensures.value ∙ c.in_ok-labels.ensures in
    tabulated n table t shown c.in_ok-fault.fault c.in_ok-line.line old new c.requires c.in_ok-fault.ensures.fault c.in_ok-line.ensures
    (subst (λ ls. Appends old new (figures_table n ls shown t.from t.until)) same c.in_ok-write_figures.ensures.ok)

pub returns-in_err-write_figures : goal.returns-in_err-write_figures
returns-in_err-write_figures g c =
    let n = c.args.file.now.network in
    let t = tabulation_of c.args.asked.now.tabulation.now in
    let said = labels_said (view c.args.file.now.value) n.models in
    let table = λ (l : List Bool). figures_table n said l t.from t.until in
    let old = g.W.Write.contents c.args.out.now in
    let new = g.W.Write.contents c.write_figures.new.out in
    let why = c.in_err-write_figures.field-0.0 in
    let shown = c.args.asked.now.shown.now in
    let same = ap (map label) c.as_slice.ensures.value ∙ c.in_ok-labels.ensures in
    on_err (λ end. IsTabulatedOf n table t end old new) c.from_residual-in_err-write_figures.result (failed_of (not_written_refusal why)) c.from_residual-in_err-write_figures.ensures.1
    (table_short n table t shown why old new c.requires
    (λ is. subst (λ ls. AppendsBeginning old new (figures_table n ls shown t.from t.until)) same (c.in_err-write_figures.ensures.err is)))
