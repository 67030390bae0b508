use Rattle.std.proofs.Common.{inr, subst}
use Rattle.serde_json.specs.View.{view}
use Rattle.tw_engine.proofs.Passing.{on_err}
use Rattle.tw_engine.proofs.Viewed.{labels_of_bytes, none_summed}
use Rattle.tw_engine.specs.Views.{IsSummed, IsSummedOf, file_labels, summary_of}
use Rattle.tw_engine.proofs.job_stats.stats.Goals as goal

pub returns-in_err-shown : goal.returns-in_err-shown
returns-in_err-shown g c =
    let n = c.in_ok-file.file.network in
    let s = summary_of c.args.summary.now in
    let bytes = c.args.bytes.now in
    let old = g.W.Write.contents c.args.out.now in
    on_err (λ end. IsSummed bytes s end old old) c.from_residual-in_err-shown.result c.in_err-shown.field-0.0 c.from_residual-in_err-shown.ensures.1
    (inr (n, c.in_ok-file.ensures.network, none_summed n (file_labels bytes n) s c.in_err-shown.field-0.0 old c.in_err-shown.ensures))

pub returns : goal.returns
returns g c =
    let n = c.in_ok-file.file.network in
    let old = g.W.Write.contents c.args.out.now in
    let new = g.W.Write.contents c.sum_up.new.out in
    inr (
      n,
      c.in_ok-file.ensures.network,
      subst (λ ls. IsSummedOf n ls (summary_of c.args.summary.now) c.sum_up.result old new)
          (labels_of_bytes c.args.bytes.now (view c.in_ok-file.file.value) n c.in_ok-file.ensures.value) c.sum_up.ensures,
    )
