use Rattle.std.proofs.Common.{◌≡◌, ◌∙◌, ap, List, subst}
use Rattle.std.specs.Prelude.{Bool, map}
use Rattle.serde_json.specs.View.{view}
use Rattle.tw_engine.proofs.Viewed.{tabulated_in_order}
use Rattle.tw_engine.specs.Views.{IsTabulatedOf, column, columns_said, run_table, tabulation_of}
use Rattle.tw_machine_file.specs.Shared.{file_field}
use Rattle.tw_record_lines.specs.Fields.{Field, field}
use Rattle.tw_engine.proofs.job_table.tabulate.Goals as goal

pub returns : goal.returns
returns g c =
    let n = c.args.file.now.network in
    let t = tabulation_of c.args.asked.now.tabulation.now in
    let table = λ (fields : List Field) (l : List Bool). run_table n c.args.rows fields l t.from t.until in
    let old = g.W.Write.contents c.args.out.now in
    let new = g.W.Write.contents c.list.new.out in
    let same : map field c.as_slice-2.result.now ≡ columns_said (view c.args.file.now.value) =
    ap (map field) c.as_slice-2.ensures.value ∙ c.in_ok-columns.ensures ∙ ap (λ fs. map column (map file_field fs)) c.as_slice.ensures.value ∙ ap (map column) c.in_ok-fields.ensures in
    subst (λ (fields : List Field). IsTabulatedOf n (table fields) t c.list.result old new) same
    (tabulated_in_order n (table (map field c.as_slice-2.result.now)) t c.args.asked.now.shown.now c.list.result old new c.requires c.list.ensures)
