use Rattle.std.proofs.Common.{sym, ap, ◌∙◌, refl, subst}
use Rattle.std.proofs.lemmas.Result.{IfOk-from_err}
use Rattle.std.specs.Vec.Iter.{into_iter_items}
use Rattle.tw_network.specs.Contents.{named}
use Rattle.tw_network.specs.Faults.{components_fault}
use Rattle.tw_network.proofs.FirstFault.{passed_on}
use Rattle.tw_network.proofs.Taking.{AreTaken, taken_on, taken_stop, names_taken, models_taken, none_at_fault}
use Rattle.tw_network.proofs.checks.take_components.Goals as goal

pub loop-component-init : goal.loop-component-init
loop-component-init g c =
    let given = sym c.into_iter-component-iterator.ensures.into_iter_gives.0 in
    (tt, tt, record { all = given; names = rw c.new-names.ensures.empty refl; models = c.in_ok-models.ensures.items; fault = ap (λ all. components_fault g.M.Atomic.meaning (named all)) given })

pub returns-in_err-take_component-clause-err : goal.returns-in_err-take_component-clause-err
returns-in_err-take_component-clause-err g c =
    let left = subst (λ rest. AreTaken g.M.Atomic.meaning c.args.components.items c.loop-component.yielded rest c.loop-component.names.keys c.loop-component.models.items) c.in-Some.ensures.steps.0 c.loop-component.invariant.2 in
    passed_on c.from_residual-in_err-take_component.result c.in_err-take_component.field-0.0 _ c.from_residual-in_err-take_component.ensures.1
    (λ ne. taken_stop g.M.Atomic.meaning c.args.components.items c.loop-component.yielded (into_iter_items c.next.new.self) c.loop-component.names.keys c.loop-component.models.items c.in-Some.component left c.in_err-take_component.field-0.0 (c.in_err-take_component.ensures.err ne))

pub loop-component-preserved : goal.loop-component-preserved
loop-component-preserved g c =
    let left = subst (λ rest. AreTaken g.M.Atomic.meaning c.args.components.items c.loop-component.yielded rest c.loop-component.names.keys c.loop-component.models.items) c.in-Some.ensures.steps.0 c.loop-component.invariant.2 in
    (tt, tt, taken_on g.M.Atomic.meaning c.args.components.items c.loop-component.yielded (into_iter_items c.next.new.self) c.loop-component.names.keys c.loop-component.models.items c.in-Some.component left c.take_component.new.names.keys c.take_component.new.models.items c.in_ok-take_component.ensures.names c.in_ok-take_component.ensures.models c.in_ok-take_component.ensures.ok)

pub returns-clause-names : goal.returns-clause-names
returns-clause-names g c = names_taken g.M.Atomic.meaning c.args.components.items c.loop-component.yielded (into_iter_items c.loop-component.component-iterator) c.loop-component.names.keys c.loop-component.models.items (sym c.loop-component.component-iterator.rest.ok.0 ∙ c.in-None.ensures.steps.0) c.loop-component.invariant.2

pub returns-clause-models : goal.returns-clause-models
returns-clause-models g c = models_taken g.M.Atomic.meaning c.args.components.items c.loop-component.yielded (into_iter_items c.loop-component.component-iterator) c.loop-component.names.keys c.loop-component.models.items (sym c.loop-component.component-iterator.rest.ok.0 ∙ c.in-None.ensures.steps.0) c.loop-component.invariant.2

pub returns-clause-ok : goal.returns-clause-ok
returns-clause-ok g c = none_at_fault g.M.Atomic.meaning c.args.components.items c.loop-component.yielded (into_iter_items c.loop-component.component-iterator) c.loop-component.names.keys c.loop-component.models.items (sym c.loop-component.component-iterator.rest.ok.0 ∙ c.in-None.ensures.steps.0) c.loop-component.invariant.2

pub returns-in_err-models-clause-names : goal.returns-in_err-models-clause-names
returns-in_err-models-clause-names g c = IfOk-from_err _ _ c.from_residual.ensures.0

pub returns-in_err-models-clause-models : goal.returns-in_err-models-clause-models
returns-in_err-models-clause-models g c = IfOk-from_err _ _ c.from_residual.ensures.0

pub returns-in_err-models-clause-ok : goal.returns-in_err-models-clause-ok
returns-in_err-models-clause-ok g c = IfOk-from_err _ _ c.from_residual.ensures.0

pub returns-in_err-take_component-clause-names : goal.returns-in_err-take_component-clause-names
returns-in_err-take_component-clause-names g c = IfOk-from_err _ _ c.from_residual-in_err-take_component.ensures.0

pub returns-in_err-take_component-clause-models : goal.returns-in_err-take_component-clause-models
returns-in_err-take_component-clause-models g c = IfOk-from_err _ _ c.from_residual-in_err-take_component.ensures.0

pub returns-in_err-take_component-clause-ok : goal.returns-in_err-take_component-clause-ok
returns-in_err-take_component-clause-ok g c = IfOk-from_err _ _ c.from_residual-in_err-take_component.ensures.0
