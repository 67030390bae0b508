use Rattle.std.proofs.Common.{◌∙◌, ◌+◌, ap, drop, sym}
use Rattle.std.specs.Prelude.{Result}
use Rattle.serde_json.specs.View.{items_view}
use Rattle.tw_machine_file.specs.Declares.{observations_of}
use Rattle.tw_machine_file.specs.Fault.{Fault, once}
use Rattle.tw_machine_file.specs.Seen.{Scope, scope}
use Rattle.tw_machine_file.proofs.Passed.{drop_at, fails_on}
use Rattle.tw_machine_file.proofs.declarations.observations_of.Goals as goal

pub returns-in_err-all-clause-err : goal.returns-in_err-all-clause-err
returns-in_err-all-clause-err c =
    let values = c.args.values.now in
    let i = c.loop-value.value-index in
    let s = scope c.loop-value.all in
    fails_on c.from_residual.result c.in_err-all.field-0.0 (observations_of (scope c.args.so_far) (items_view values)) c.from_residual.ensures.1
    (λ no. sym c.loop-value.invariant
    ∙ ap (λ vs. observations_of s (items_view vs)) (drop_at values i c.value-item.result c.loop-value-test.true c.value-item.is)
    ∙ ap (λ (r : Result Scope Fault). once r (λ next. observations_of next (items_view (drop (i + 1) values)))) (c.in_err-all.ensures.err no))
