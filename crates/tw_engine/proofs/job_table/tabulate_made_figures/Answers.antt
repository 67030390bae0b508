use Rattle.std.proofs.Common.{◌∙◌, List, ap, map, subst, sym}
use Rattle.std.specs.Io.KnownBytes.{Appends}
use Rattle.std.specs.Prelude.{Bool}
use Rattle.serde_json.specs.View.{view}
use Rattle.tw_any_model.specs.AnyModel.{any_meaning}
use Rattle.tw_engine.proofs.Passing.{on_err}
use Rattle.tw_engine.proofs.Viewed.{table_short, tabulated}
use Rattle.tw_engine.specs.Ends.{failed_of}
use Rattle.tw_engine.specs.Runs.{name_in}
use Rattle.tw_engine.specs.Views.{IsTabulatedOf, figures_table, tabulation_of}
use Rattle.tw_figure_names.specs.Said.{labels_said}
use Rattle.tw_figures.proofs.Steady.{run_steady}
use Rattle.tw_figures.specs.Figures.{IsSteady}
use Rattle.tw_figures.specs.Gathered.{start_words}
use Rattle.tw_figures.specs.Labelled.{label}
use Rattle.tw_msgs.specs.declared.record.Record.{Record}
use Rattle.tw_network.specs.Contents.{network_of}
use Rattle.tw_record_lines.specs.FigureTables.{figures_text, table_of}
use Rattle.tw_texts.specs.Refusals.{not_written_refusal}
use Rattle.tw_texts.specs.Traces.{AppendsBeginning}
use Rattle.tw_engine.proofs.job_table.tabulate_made_figures.Goals as goal

pub write_figures_of-requires : goal.write_figures_of-requires
write_figures_of-requires g c =
    subst IsSteady (sym c.requires.made.records) (run_steady (network_of any_meaning c.args.made.now.network.now) c.args.asked.now.tabulation.now.until c.facts.ensures.network c.requires.small)

pub returns : goal.returns
returns g c =
    let n = c.args.made.now.network.now in
    let t = tabulation_of c.args.asked.now.tabulation.now in
    let said = labels_said (view c.args.made.now.value.now) n.models in
    let table = λ (l : List Bool). figures_table n said l t.from t.until in
    let starts = start_words (network_of any_meaning n) in
    let old = g.W.Write.contents c.args.out.now in
    let new = g.W.Write.contents c.write_figures_of.new.out in
    let shown = c.args.asked.now.shown.now in
    let same = ap (map label) c.as_slice.ensures.value ∙ c.in_ok-labels.ensures in
    tabulated n table t shown c.args.made.now.run.fault c.in_ok-line.line old new c.requires.shown c.requires.made.fault c.in_ok-line.ensures
    (subst (λ ls. Appends old new (figures_table n ls shown t.from t.until)) same
    (subst (λ (rs : List Record). Appends old new (figures_text (table_of (name_in n.names) c.as_slice.result.now shown t.from) starts rs)) c.requires.made.records c.in_ok-write_figures_of.ensures.ok))

pub returns-in_err-write_figures_of : goal.returns-in_err-write_figures_of
returns-in_err-write_figures_of g c =
    let n = c.args.made.now.network.now in
    let t = tabulation_of c.args.asked.now.tabulation.now in
    let said = labels_said (view c.args.made.now.value.now) n.models in
    let table = λ (l : List Bool). figures_table n said l t.from t.until in
    let starts = start_words (network_of any_meaning n) in
    let old = g.W.Write.contents c.args.out.now in
    let new = g.W.Write.contents c.write_figures_of.new.out in
    let why = c.in_err-write_figures_of.field-0.0 in
    let shown = c.args.asked.now.shown.now in
    let same = ap (map label) c.as_slice.ensures.value ∙ c.in_ok-labels.ensures in
    on_err (λ end. IsTabulatedOf n table t end old new) c.from_residual-in_err-write_figures_of.result (failed_of (not_written_refusal why)) c.from_residual-in_err-write_figures_of.ensures.1
    (table_short n table t shown why old new c.requires.shown
    (λ is. subst (λ ls. AppendsBeginning old new (figures_table n ls shown t.from t.until)) same
    (subst (λ (rs : List Record). AppendsBeginning old new (figures_text (table_of (name_in n.names) c.as_slice.result.now shown t.from) starts rs)) c.requires.made.records (c.in_err-write_figures_of.ensures.err is))))
