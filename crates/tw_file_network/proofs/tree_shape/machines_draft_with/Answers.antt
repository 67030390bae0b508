use Rattle.std.proofs.Common.{◌≡◌, ◌∙◌, map, refl}
use Rattle.std.specs.Prelude.{None}
use Rattle.serde_json.specs.View.{view, items_view}
use Rattle.tw_machine_file.specs.Seen.{machine}
use Rattle.tw_nested.specs.Tree.{parts_of}
use Rattle.tw_file_network.specs.Draft.{inputs_view}
use Rattle.tw_file_network.specs.TreeShape.{machines_file_with}
use Rattle.tw_file_network.specs.declared.refused.FileRefused.TheVariants.{BadShape}
use Rattle.tw_file_network.proofs.PartsInOrder.{passed_on}
use Rattle.tw_file_network.proofs.TreeMembers.{all_say, an_input_bad, few, no_inputs, no_limit, no_root, not_few}
use Rattle.tw_file_network.proofs.tree_shape.machines_draft_with.Goals as goal

pub returns-then-not-has_few_numbers-clause-err : goal.returns-then-not-has_few_numbers-clause-err
returns-then-not-has_few_numbers-clause-err c = λ _. (refl, not_few (view c.args.value.now) (map machine c.args.machines.now) c.if-not-has_few_numbers.ensures)

pub returns-in_default-clause-err : goal.returns-in_default-clause-err
returns-in_default-clause-err c = λ _. (refl, few (view c.args.value.now) (map machine c.args.machines.now) c.if-not-has_few_numbers.ensures ∙ no_limit (view c.args.value.now) (map machine c.args.machines.now) c.in_default.ensures)

pub returns-in_err-root-clause-err : goal.returns-in_err-root-clause-err
returns-in_err-root-clause-err c =
    passed_on c.from_residual.result c.in_err-root.field-0.0 (λ e. (e ≡ BadShape) × (machines_file_with (view c.args.value.now) (map machine c.args.machines.now) ≡ None)) c.from_residual.ensures.1
    (λ other. ((c.in_err-root.ensures.err other).0, few (view c.args.value.now) (map machine c.args.machines.now) c.if-not-has_few_numbers.ensures ∙ no_root (map machine c.args.machines.now) (view c.args.value.now) c.in-Some.micro_limit c.in-Some.ensures (c.in_err-root.ensures.err other).1))

pub returns-in_default-items_at-clause-err : goal.returns-in_default-items_at-clause-err
returns-in_default-items_at-clause-err c =
    λ _. (refl, few (view c.args.value.now) (map machine c.args.machines.now) c.if-not-has_few_numbers.ensures ∙ no_inputs (map machine c.args.machines.now) (view c.args.value.now) c.in-Some.micro_limit c.in-Some.ensures (parts_of c.in_ok-root.root.parts.items, c.in_ok-root.root.couplings.items) c.in_ok-root.ensures.ok c.in_default-items_at.ensures)

pub returns-in_err-inputs-clause-err : goal.returns-in_err-inputs-clause-err
returns-in_err-inputs-clause-err c =
    passed_on c.from_residual-in_err-inputs.result c.in_err-inputs.field-0.0 (λ e. (e ≡ BadShape) × (machines_file_with (view c.args.value.now) (map machine c.args.machines.now) ≡ None)) c.from_residual-in_err-inputs.ensures.1
    (λ other. (
      (c.in_err-inputs.ensures.err other).0,
      few (view c.args.value.now) (map machine c.args.machines.now) c.if-not-has_few_numbers.ensures ∙ an_input_bad (map machine c.args.machines.now) (view c.args.value.now) c.in-Some.micro_limit c.in-Some.ensures (parts_of c.in_ok-root.root.parts.items, c.in_ok-root.root.couplings.items) c.in_ok-root.ensures.ok (items_view c.in-Some-items_at.inputs.now) c.in-Some-items_at.ensures (c.in_err-inputs.ensures.err other).1,
    ))

pub returns-clause-ok : goal.returns-clause-ok
returns-clause-ok c =
    few (view c.args.value.now) (map machine c.args.machines.now) c.if-not-has_few_numbers.ensures ∙ all_say (map machine c.args.machines.now) (view c.args.value.now) c.in-Some.micro_limit c.in-Some.ensures (parts_of c.in_ok-root.root.parts.items, c.in_ok-root.root.couplings.items) c.in_ok-root.ensures.ok (items_view c.in-Some-items_at.inputs.now) c.in-Some-items_at.ensures (inputs_view c.in_ok-inputs.inputs.items) c.in_ok-inputs.ensures.ok
