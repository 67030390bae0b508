use Rattle.std.proofs.Common.{◌≡◌, ◌∙◌, ap, rules}
use Rattle.std.specs.List.{slice_index_or}
use Rattle.serde_json.specs.View.{items_view, number_view, view}
use Rattle.tw_file_settings.specs.Assigned.{assigned}
use Rattle.tw_file_settings.proofs.Passing.{passed_on}
use Rattle.tw_file_settings.proofs.Targets.{component_named, no_component, no_components, no_parameter, parameter_alone, put_back}
use Rattle.tw_file_settings.proofs.assigning.+assign.Goals as goal

pub returns-in_default-clause-ok : goal.returns-in_default-clause-ok
returns-in_default-clause-ok t c =
    rw (parameter_alone c.args.target.now (number_view c.args.number) (view c.args.model.now) (search rules)) c.set_parameter.ensures.ok

pub returns-in_default-clause-err : goal.returns-in_default-clause-err
returns-in_default-clause-err t c =
    rw (parameter_alone c.args.target.now (number_view c.args.number) (view c.args.model.now) (search rules)) c.set_parameter.ensures.err

pub returns-in_default-2-clause-err : goal.returns-in_default-2-clause-err
returns-in_default-2-clause-err t c = λ refused.
    let d = view c.args.model.now in
    let n = number_view c.args.number in
    component_named c.args.target.now n d c.in-Some.name.now c.in-Some.rest.now (search rules) (search rules) (search rules)
    ∙ no_components c.in-Some.name.now (assigned c.in-Some.rest.now n) d (search rules)

pub returns-in_default-place_named-clause-err : goal.returns-in_default-place_named-clause-err
returns-in_default-place_named-clause-err t c = λ refused.
    let d = view c.args.model.now in
    let n = number_view c.args.number in
    component_named c.args.target.now n d c.in-Some.name.now c.in-Some.rest.now (search rules) (search rules) (search rules)
    ∙ no_component c.in-Some.name.now (assigned c.in-Some.rest.now n) d (items_view c.in-Some-2.components.items) (search rules) (search rules)

pub returns-in_err-assign-clause-err : goal.returns-in_err-assign-clause-err
returns-in_err-assign-clause-err t c = passed_on c.from_residual-in_err-assign.result c.in_err-assign.field-0.0 _ c.from_residual-in_err-assign.ensures.1 (λ refused.
    let d = view c.args.model.now in
    let n = number_view c.args.number in
    let vs = c.in-Some-2.components.items in
    let x = c.index_mut.result.now in
    let at : slice_index_or vs c.in-Some-place_named.place x ≡ x = search rules in
    component_named c.args.target.now n d c.in-Some.name.now c.in-Some.rest.now (search rules) (search rules) (search rules)
    ∙ no_parameter c.in-Some.name.now (assigned c.in-Some.rest.now n) d vs c.in-Some-place_named.place x (search rules) (search rules)
    (ap (λ v. assigned c.in-Some.rest.now n (view v)) at ∙ c.in_err-assign.ensures.err refused))

pub returns-clause-ok : goal.returns-clause-ok
returns-clause-ok t c =
    let d = view c.args.model.now in
    let n = number_view c.args.number in
    let vs = c.in-Some-2.components.items in
    let x = c.index_mut.result.now in
    let at : slice_index_or vs c.in-Some-place_named.place x ≡ x = search rules in
    component_named c.args.target.now n d c.in-Some.name.now c.in-Some.rest.now (search rules) (search rules) (search rules)
    ∙ put_back c.in-Some.name.now (assigned c.in-Some.rest.now n) d (view c.take_components.new.model) (view c.put_components.new.model) vs c.in-Some-place_named.place x c.assign.new.model
    (search rules) (search rules) (ap (λ v. assigned c.in-Some.rest.now n (view v)) at ∙ c.in_ok-assign.ensures.ok) (search rules)
    c.in_ok-put_components.ensures
