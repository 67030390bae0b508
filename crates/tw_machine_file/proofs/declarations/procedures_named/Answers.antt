use Rattle.std.proofs.Common.{◌∙◌, ◌+◌, ℕ, List, ap, drop, sym}
use Rattle.std.specs.Prelude.{Result}
use Rattle.serde_json.specs.View.{items_view}
use Rattle.tw_machine_file.specs.Declares.{procedure_named, procedures_named}
use Rattle.tw_machine_file.specs.Fault.{Fault, once}
use Rattle.tw_machine_file.specs.Seen.{Scope, scope}
use Rattle.tw_machine_file.proofs.Passed.{drop_at, fails_on}
use Rattle.tw_machine_file.proofs.declarations.procedures_named.Goals as goal

pub returns-in_err-all-clause-err : goal.returns-in_err-all-clause-err
returns-in_err-all-clause-err c =
    let values = c.args.values.now in
    let i = c.loop-place.place in
    let s = scope c.loop-place.all in
    let rest = items_view (drop (i + 1) values) in
    fails_on c.from_residual-in_err-all.result c.in_err-all.field-0.0 (procedures_named 0 (scope c.args.so_far) (items_view values)) c.from_residual-in_err-all.ensures.1
    (λ no. sym c.loop-place.invariant
    ∙ ap (λ vs. procedures_named i s (items_view vs)) (drop_at values i c.index-values-place.result c.loop-place-test.true c.index-values-place.is)
    ∙ ap (λ (r : Result (List ℕ) Fault). once (once r (procedure_named i s)) (λ next. procedures_named (i + 1) next rest)) c.in_ok-name.ensures.ok
    ∙ ap (λ (r : Result Scope Fault). once r (λ next. procedures_named (i + 1) next rest)) (c.in_err-all.ensures.err no))
