use Rattle.std.proofs.Common.{◌≡◌, ◌∙◌, ap, inl, inr, rules, subst}
use Rattle.std.specs.Arc.{arc_value}
use Rattle.serde_json.specs.View.{view}
use Rattle.tw_any_model.specs.AnyModel.{any_meaning}
use Rattle.tw_any_model.specs.declared.any_model.AnyModel.{AnyModel}
use Rattle.tw_engine.proofs.Passing.{on_err}
use Rattle.tw_engine.proofs.Viewed.{fields_of_bytes, labels_of_bytes, none_tabulated, untabulated}
use Rattle.tw_engine.specs.Runs.{run_fault}
use Rattle.tw_engine.specs.Views.{IsTabulatedByWorkers, IsTabulatedOf, columns_said, file_fields, file_labels, table_with, tabulation_of}
use Rattle.tw_figure_names.specs.Said.{labels_said}
use Rattle.tw_network.specs.Contents.{Contents, network_of}
use Rattle.tw_theory.specs.Simulator.{sequential}
use Rattle.tw_engine.proofs.job_table.table_by_workers.Goals as goal

pub tabulate_made-requires-clause-made : goal.tabulate_made-requires-clause-made
tabulate_made-requires-clause-made g c =
    let made = c.in_ok-made-in-Some.made in
    let whole = c.in_ok-made-in-Some.ensures.whole in
    let until = c.args.tabulation.now.until in
    let same : arc_value made.network ≡ c.deref.result.now = search rules in
    record {
      records = c.as_slice.ensures.value ∙ whole.records ∙ ap (λ (n : Contents AnyModel). (sequential (network_of any_meaning n) until).records) same;
      fault = whole.fault ∙ ap (λ (n : Contents AnyModel). run_fault n until) same;
    }

pub returns-in_err-shown : goal.returns-in_err-shown
returns-in_err-shown g c =
    let n = c.in_ok-file.file.network in
    let t = tabulation_of c.args.tabulation.now in
    let bytes = c.args.bytes.now in
    let old = g.W.Write.contents c.args.out.now in
    on_err (λ end. IsTabulatedByWorkers bytes c.args.by.cancel t end old old) c.from_residual-in_err-shown.result c.in_err-shown.field-0.0 c.from_residual-in_err-shown.ensures.1
    (inl (inr (n, c.in_ok-file.ensures.network, none_tabulated n (table_with n (file_fields bytes) (file_labels bytes n) t) t c.in_err-shown.field-0.0 old c.in_err-shown.ensures)))

pub returns-in_ok-made-in-Some : goal.returns-in_ok-made-in-Some
returns-in_ok-made-in-Some g c =
    let n = c.in_ok-file.file.network in
    let file = view c.in_ok-file.file.value in
    let t = tabulation_of c.args.tabulation.now in
    let old = g.W.Write.contents c.args.out.now in
    let new = g.W.Write.contents c.tabulate_made.new.out in
    let same : c.deref.result.now ≡ arc_value c.in_ok-made-in-Some.made.network = search rules in
    inl (inr (
      n,
      c.in_ok-file.ensures.network,
      subst (λ ls. IsTabulatedOf n (table_with n (file_fields c.args.bytes.now) ls t) t c.tabulate_made.result old new) (labels_of_bytes c.args.bytes.now file n c.in_ok-file.ensures.value)
          (subst (λ fs. IsTabulatedOf n (table_with n fs (labels_said file n.models) t) t c.tabulate_made.result old new) (fields_of_bytes c.args.bytes.now file c.in_ok-file.ensures.value)
          (subst (λ (m : Contents AnyModel). IsTabulatedOf m (table_with m (columns_said file) (labels_said file m.models) t) t c.tabulate_made.result old new) (same ∙ c.in_ok-made-in-Some.ensures.network) c.tabulate_made.ensures)),
    ))

pub returns-in_err-made-in-Some : goal.returns-in_err-made-in-Some
returns-in_err-made-in-Some g c =
    let n = c.in_ok-file.file.network in
    let t = tabulation_of c.args.tabulation.now in
    let old = g.W.Write.contents c.args.out.now in
    on_err (λ end. IsTabulatedByWorkers c.args.bytes.now c.args.by.cancel t end old old) c.from_residual-in_err-made-in-Some.result c.in_err-made-in-Some.field-0.0 c.from_residual-in_err-made-in-Some.ensures.1
    (untabulated c.args.bytes.now n c.in_ok-file.ensures.network c.args.by.cancel t c.in_err-made-in-Some.field-0.0 old c.in_err-made-in-Some.ensures.err)

pub returns-in-None : goal.returns-in-None
returns-in-None g c =
    let n = c.in_ok-file.file.network in
    let old = g.W.Write.contents c.args.out.now in
    let new = g.W.Write.contents c.tabulate_file.new.out in
    inl (inr (
      n,
      c.in_ok-file.ensures.network,
      subst (λ ls. IsTabulatedOf n (table_with n (file_fields c.args.bytes.now) ls (tabulation_of c.args.tabulation.now)) (tabulation_of c.args.tabulation.now) c.tabulate_file.result old new)
          (labels_of_bytes c.args.bytes.now (view c.in_ok-file.file.value) n c.in_ok-file.ensures.value)
          (subst (λ fs. IsTabulatedOf n (table_with n fs (labels_said (view c.in_ok-file.file.value) n.models) (tabulation_of c.args.tabulation.now)) (tabulation_of c.args.tabulation.now) c.tabulate_file.result old new)
          (fields_of_bytes c.args.bytes.now (view c.in_ok-file.file.value) c.in_ok-file.ensures.value) c.tabulate_file.ensures),
    ))
