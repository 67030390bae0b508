use Rattle.std.proofs.Common.{◌≡◌, ◌∙◌, [], refl}
use Rattle.std.specs.Prelude.{codes, Err, None, Some}
use Rattle.serde_json.specs.View.{view}
use Rattle.tw_file_network.specs.Draft.{components_view, couplings_view, inputs_view}
use Rattle.tw_file_network.specs.Meaning.{shape_of}
use Rattle.tw_file_network.specs.Shape.{component_of, coupling_of, input_of}
use Rattle.tw_file_network.proofs.FlatMembers.{an_array, no_array, no_file, refused, says}
use Rattle.tw_file_network.proofs.PartsInOrder.{passed_on}
use Rattle.tw_file_network.proofs.shape.draft_of.Goals as goal

pub returns-then-not-is_file-clause-err : goal.returns-then-not-is_file-clause-err
returns-then-not-is_file-clause-err c = λ _. no_file (view c.args.value.now) c.if-not-is_file.ensures

pub returns-in_default-clause-err : goal.returns-in_default-clause-err
returns-in_default-clause-err c = λ _. says (view c.args.value.now) c.if-not-is_file.ensures None c.in_default.ensures _ refl _ refl _ refl

pub returns-in_default-and_then-clause-err : goal.returns-in_default-and_then-clause-err
returns-in_default-and_then-clause-err c =
    λ _. says (view c.args.value.now) c.if-not-is_file.ensures (Some c.in-Some.micro_limit) c.in-Some.ensures
    None (no_array (component_of []) (codes "components") (view c.args.value.now) c.get.result c.get.ensures c.and_then.result c.in_default-and_then.is c.and_then.ensures) _ refl _ refl

pub returns-in_err-components-clause-err : goal.returns-in_err-components-clause-err
returns-in_err-components-clause-err c =
    passed_on c.from_residual.result c.in_err-components.field-0.0 (λ e. shape_of (view c.args.value.now) ≡ Err e) c.from_residual.ensures.1
    (λ other. refused (view c.args.value.now) (
    says (view c.args.value.now) c.if-not-is_file.ensures (Some c.in-Some.micro_limit) c.in-Some.ensures
    None (an_array (component_of []) (codes "components") (view c.args.value.now) c.get.result c.get.ensures c.in-Some-and_then.components c.in-Some-and_then.ensures c.as_slice.result.now c.as_slice.ensures.value ∙ (c.in_err-components.ensures.err other).1) _ refl _ refl
    ) c.in_err-components.field-0.0 (c.in_err-components.ensures.err other).0)

pub returns-in_default-and_then-2-clause-err : goal.returns-in_default-and_then-2-clause-err
returns-in_default-and_then-2-clause-err c =
    λ _. says (view c.args.value.now) c.if-not-is_file.ensures (Some c.in-Some.micro_limit) c.in-Some.ensures
    (Some (components_view c.in_ok-components.components.items)) (an_array (component_of []) (codes "components") (view c.args.value.now) c.get.result c.get.ensures c.in-Some-and_then.components c.in-Some-and_then.ensures c.as_slice.result.now c.as_slice.ensures.value ∙ c.in_ok-components.ensures.ok)
    None (no_array coupling_of (codes "couplings") (view c.args.value.now) c.get-2.result c.get-2.ensures c.and_then-2.result c.in_default-and_then-2.is c.and_then-2.ensures) _ refl

pub returns-in_err-couplings-clause-err : goal.returns-in_err-couplings-clause-err
returns-in_err-couplings-clause-err c =
    passed_on c.from_residual-in_err-couplings.result c.in_err-couplings.field-0.0 (λ e. shape_of (view c.args.value.now) ≡ Err e) c.from_residual-in_err-couplings.ensures.1
    (λ other. refused (view c.args.value.now) (
    says (view c.args.value.now) c.if-not-is_file.ensures (Some c.in-Some.micro_limit) c.in-Some.ensures
    (Some (components_view c.in_ok-components.components.items)) (an_array (component_of []) (codes "components") (view c.args.value.now) c.get.result c.get.ensures c.in-Some-and_then.components c.in-Some-and_then.ensures c.as_slice.result.now c.as_slice.ensures.value ∙ c.in_ok-components.ensures.ok)
    None (an_array coupling_of (codes "couplings") (view c.args.value.now) c.get-2.result c.get-2.ensures c.in-Some-and_then-2.couplings c.in-Some-and_then-2.ensures c.as_slice-2.result.now c.as_slice-2.ensures.value ∙ (c.in_err-couplings.ensures.err other).1) _ refl
    ) c.in_err-couplings.field-0.0 (c.in_err-couplings.ensures.err other).0)

pub returns-in_default-and_then-3-clause-err : goal.returns-in_default-and_then-3-clause-err
returns-in_default-and_then-3-clause-err c =
    λ _. says (view c.args.value.now) c.if-not-is_file.ensures (Some c.in-Some.micro_limit) c.in-Some.ensures
    (Some (components_view c.in_ok-components.components.items)) (an_array (component_of []) (codes "components") (view c.args.value.now) c.get.result c.get.ensures c.in-Some-and_then.components c.in-Some-and_then.ensures c.as_slice.result.now c.as_slice.ensures.value ∙ c.in_ok-components.ensures.ok)
    (Some (couplings_view c.in_ok-couplings.couplings.items)) (an_array coupling_of (codes "couplings") (view c.args.value.now) c.get-2.result c.get-2.ensures c.in-Some-and_then-2.couplings c.in-Some-and_then-2.ensures c.as_slice-2.result.now c.as_slice-2.ensures.value ∙ c.in_ok-couplings.ensures.ok)
    None (no_array input_of (codes "inputs") (view c.args.value.now) c.get-3.result c.get-3.ensures c.and_then-3.result c.in_default-and_then-3.is c.and_then-3.ensures)

pub returns-in_err-inputs-clause-err : goal.returns-in_err-inputs-clause-err
returns-in_err-inputs-clause-err c =
    passed_on c.from_residual-in_err-inputs.result c.in_err-inputs.field-0.0 (λ e. shape_of (view c.args.value.now) ≡ Err e) c.from_residual-in_err-inputs.ensures.1
    (λ other. refused (view c.args.value.now) (
    says (view c.args.value.now) c.if-not-is_file.ensures (Some c.in-Some.micro_limit) c.in-Some.ensures
    (Some (components_view c.in_ok-components.components.items)) (an_array (component_of []) (codes "components") (view c.args.value.now) c.get.result c.get.ensures c.in-Some-and_then.components c.in-Some-and_then.ensures c.as_slice.result.now c.as_slice.ensures.value ∙ c.in_ok-components.ensures.ok)
    (Some (couplings_view c.in_ok-couplings.couplings.items)) (an_array coupling_of (codes "couplings") (view c.args.value.now) c.get-2.result c.get-2.ensures c.in-Some-and_then-2.couplings c.in-Some-and_then-2.ensures c.as_slice-2.result.now c.as_slice-2.ensures.value ∙ c.in_ok-couplings.ensures.ok)
    None (an_array input_of (codes "inputs") (view c.args.value.now) c.get-3.result c.get-3.ensures c.in-Some-and_then-3.inputs c.in-Some-and_then-3.ensures c.as_slice-3.result.now c.as_slice-3.ensures.value ∙ (c.in_err-inputs.ensures.err other).1)
    ) c.in_err-inputs.field-0.0 (c.in_err-inputs.ensures.err other).0)

pub returns-clause-ok : goal.returns-clause-ok
returns-clause-ok c =
    says (view c.args.value.now) c.if-not-is_file.ensures (Some c.in-Some.micro_limit) c.in-Some.ensures
    (Some (components_view c.in_ok-components.components.items)) (an_array (component_of []) (codes "components") (view c.args.value.now) c.get.result c.get.ensures c.in-Some-and_then.components c.in-Some-and_then.ensures c.as_slice.result.now c.as_slice.ensures.value ∙ c.in_ok-components.ensures.ok)
    (Some (couplings_view c.in_ok-couplings.couplings.items)) (an_array coupling_of (codes "couplings") (view c.args.value.now) c.get-2.result c.get-2.ensures c.in-Some-and_then-2.couplings c.in-Some-and_then-2.ensures c.as_slice-2.result.now c.as_slice-2.ensures.value ∙ c.in_ok-couplings.ensures.ok)
    (Some (inputs_view c.in_ok-inputs.inputs.items)) (an_array input_of (codes "inputs") (view c.args.value.now) c.get-3.result c.get-3.ensures c.in-Some-and_then-3.inputs c.in-Some-and_then-3.ensures c.as_slice-3.result.now c.as_slice-3.ensures.value ∙ c.in_ok-inputs.ensures.ok)
