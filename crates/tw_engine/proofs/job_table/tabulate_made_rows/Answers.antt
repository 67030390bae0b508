use Rattle.std.proofs.Common.{◌≡◌, ◌∙◌, ap, List, subst}
use Rattle.std.specs.Prelude.{Bool, Ok, Err, map}
use Rattle.serde_json.specs.View.{view}
use Rattle.std.specs.Io.KnownBytes.{Appends}
use Rattle.tw_engine.proofs.Passing.{on_err}
use Rattle.tw_engine.proofs.Viewed.{table_short, tabulated}
use Rattle.tw_engine.specs.Ends.{failed_of}
use Rattle.tw_engine.specs.Runs.{name_in}
use Rattle.tw_engine.specs.Views.{IsTabulatedOf, column, columns_said, run_table, tabulation_of}
use Rattle.tw_machine_file.specs.Shared.{file_field}
use Rattle.tw_msgs.specs.declared.record.Record.{Record}
use Rattle.tw_record_lines.specs.Fields.{Field, field}
use Rattle.tw_record_lines.specs.Tables.{listed, table_text}
use Rattle.tw_texts.specs.Refusals.{not_written_refusal}
use Rattle.tw_texts.specs.Traces.{AppendsBeginning}
use Rattle.tw_engine.proofs.job_table.tabulate_made_rows.Goals as goal

pub returns : goal.returns
returns g c =
    let n = c.args.made.now.network.now in
    let t = tabulation_of c.args.asked.now.tabulation.now in
    let table = λ (fields : List Field) (l : List Bool). run_table n c.args.rows fields l t.from t.until in
    let old = g.W.Write.contents c.args.out.now in
    let new = g.W.Write.contents c.write_table_of.new.out in
    let shown = c.args.asked.now.shown.now in
    let same : map field c.as_slice-2.result.now ≡ columns_said (view c.args.made.now.value.now) =
    ap (map field) c.as_slice-2.ensures.value ∙ c.in_ok-columns.ensures ∙ ap (λ fs. map column (map file_field fs)) c.as_slice.ensures.value ∙ ap (map column) c.in_ok-fields.ensures in
    subst (λ (fields : List Field). IsTabulatedOf n (table fields) t (Ok c.in_ok-line.line) old new) same
    (tabulated n (table (map field c.as_slice-2.result.now)) t shown c.args.made.now.run.fault c.in_ok-line.line old new c.requires.shown c.requires.made.fault c.in_ok-line.ensures
    (subst (λ (rs : List Record). Appends old new (table_text c.args.rows (map field c.as_slice-2.result.now) (name_in n.names) (listed shown t.from rs))) c.requires.made.records c.in_ok-write_table_of.ensures.ok))

pub returns-in_err-write_table_of : goal.returns-in_err-write_table_of
returns-in_err-write_table_of g c =
    let n = c.args.made.now.network.now in
    let t = tabulation_of c.args.asked.now.tabulation.now in
    let table = λ (fields : List Field) (l : List Bool). run_table n c.args.rows fields l t.from t.until in
    let old = g.W.Write.contents c.args.out.now in
    let new = g.W.Write.contents c.write_table_of.new.out in
    let why = c.in_err-write_table_of.field-0.0 in
    let shown = c.args.asked.now.shown.now in
    let same : map field c.as_slice-2.result.now ≡ columns_said (view c.args.made.now.value.now) =
    ap (map field) c.as_slice-2.ensures.value ∙ c.in_ok-columns.ensures ∙ ap (λ fs. map column (map file_field fs)) c.as_slice.ensures.value ∙ ap (map column) c.in_ok-fields.ensures in
    on_err (λ end. IsTabulatedOf n (table (columns_said (view c.args.made.now.value.now))) t end old new) c.from_residual-in_err-write_table_of.result (failed_of (not_written_refusal why)) c.from_residual-in_err-write_table_of.ensures.1
    (subst (λ (fields : List Field). IsTabulatedOf n (table fields) t (Err (failed_of (not_written_refusal why))) old new) same
    (table_short n (table (map field c.as_slice-2.result.now)) t shown why old new c.requires.shown
    (λ is. subst (λ (rs : List Record). AppendsBeginning old new (table_text c.args.rows (map field c.as_slice-2.result.now) (name_in n.names) (listed shown t.from rs))) c.requires.made.records (c.in_err-write_table_of.ensures.err is))))
