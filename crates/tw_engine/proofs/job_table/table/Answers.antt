-- The labels and the fields of the file that was read are those of its bytes.
use Rattle.std.proofs.Common.{inr, subst}
use Rattle.serde_json.specs.View.{view}
use Rattle.tw_engine.proofs.Passing.{on_err}
use Rattle.tw_engine.proofs.Viewed.{fields_of_bytes, labels_of_bytes, none_tabulated}
use Rattle.tw_engine.specs.Views.{IsTabulated, IsTabulatedOf, file_fields, file_labels, table_with, tabulation_of}
use Rattle.tw_figure_names.specs.Said.{labels_said}
use Rattle.tw_engine.proofs.job_table.table.Goals as goal

pub returns-in_err-shown : goal.returns-in_err-shown
returns-in_err-shown g c =
    let n = c.in_ok-file.file.network in
    let t = tabulation_of c.args.tabulation.now in
    let bytes = c.args.bytes.now in
    let old = g.W.Write.contents c.args.out.now in
    on_err (λ end. IsTabulated bytes t end old old) c.from_residual-in_err-shown.result c.in_err-shown.field-0.0 c.from_residual-in_err-shown.ensures.1
    (inr (n, c.in_ok-file.ensures.network, none_tabulated n (table_with n (file_fields bytes) (file_labels bytes n) t) t c.in_err-shown.field-0.0 old c.in_err-shown.ensures))

pub returns : goal.returns
returns g c =
    let n = c.in_ok-file.file.network in
    let file = view c.in_ok-file.file.value in
    let t = tabulation_of c.args.tabulation.now in
    let bytes = c.args.bytes.now in
    let old = g.W.Write.contents c.args.out.now in
    let new = g.W.Write.contents c.tabulate_file.new.out in
    inr (
      n,
      c.in_ok-file.ensures.network,
      subst (λ ls. IsTabulatedOf n (table_with n (file_fields bytes) ls t) t c.tabulate_file.result old new) (labels_of_bytes bytes file n c.in_ok-file.ensures.value)
          (subst (λ fs. IsTabulatedOf n (table_with n fs (labels_said file n.models) t) t c.tabulate_file.result old new) (fields_of_bytes bytes file c.in_ok-file.ensures.value) c.tabulate_file.ensures),
    )
