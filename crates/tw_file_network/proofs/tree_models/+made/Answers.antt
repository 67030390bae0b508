use Rattle.std.proofs.Common.{ℕ, List, ◌≡◌, ◌∙◌}
use Rattle.std.specs.Prelude.{Err}
use Rattle.tw_nested.specs.Tree.{Parts, part_view, parts_of}
use Rattle.tw_file_network.specs.declared.draft.AnyDraft.{AnyDraft}
use Rattle.tw_file_network.specs.TreeShape.{tree_made}
use Rattle.tw_file_network.proofs.PartsInOrder.{all_models, atom_fails, atom_made, coupled_fails, coupled_made, model_more, no_model, passed_on}
use Rattle.tw_file_network.proofs.tree_models.+made.Goals as goal

pub tree_made-returns-in_err-part-clause-err : goal.tree_made-returns-in_err-part-clause-err
tree_made-returns-in_err-part-clause-err t c =
    passed_on c.from_residual-in_err-part.result c.in_err-part.field-0.0 (λ e. tree_made (parts_of c.args.draft.now.parts.items) ≡ Err e) c.from_residual-in_err-part.ensures.1
    (λ other. c.loop-name.invariant
    ∙ no_model c.args.draft.now.parts.items c.deref-name-items.result.now c.loop-name.parts.items c.loop-name.name-index c.loop-name-item.result c.deref-name-items.ensures.value c.loop-name-test.true c.loop-name-item.is
    c.in_err-part.field-0.0 (c.in_err-part.ensures.err other))

pub tree_made-loop-name-preserved : goal.tree_made-loop-name-preserved
tree_made-loop-name-preserved t c =
    rw c.in_ok-push.ensures.items (c.loop-name.invariant
    ∙ model_more c.args.draft.now.parts.items c.deref-name-items.result.now c.loop-name.parts.items c.loop-name.name-index c.loop-name-item.result c.deref-name-items.ensures.value c.loop-name-test.true c.loop-name-item.is
    (c.in_ok-name.name, c.in_ok-part.part) (c.in_ok-name.ensures.ok ∙ c.as_str.ensures.value) c.in_ok-part.ensures.ok)

pub tree_made-returns-clause-ok : goal.tree_made-returns-clause-ok
tree_made-returns-clause-ok t c =
    c.loop-name.invariant
    ∙ all_models c.args.draft.now.parts.items c.deref-name-items.result.now c.loop-name.parts.items c.loop-name.name-index c.deref-name-items.ensures.value c.loop-name-test.false

pub part_made-returns-in_ok-model-in-Atom-clause-ok : goal.part_made-returns-in_ok-model-in-Atom-clause-ok
part_made-returns-in_ok-model-in-Atom-clause-ok t c = λ name rest. atom_made c.args.part.now name rest _ _ c.in-Atom.is c.in_ok-model-in-Atom.ensures.ok

pub part_made-returns-in_err-model-in-Atom-clause-err : goal.part_made-returns-in_err-model-in-Atom-clause-err
part_made-returns-in_err-model-in-Atom-clause-err t c =
    passed_on c.from_residual.result c.in_err-model-in-Atom.field-0.0 (λ e. (name : List ℕ) (rest : Parts AnyDraft) → tree_made (part_view c.args.part.now name rest) ≡ Err e) c.from_residual.ensures.1
    (λ other name rest. atom_fails c.args.part.now name rest _ _ c.in-Atom.is (c.in_err-model-in-Atom.ensures.err other))

pub part_made-returns-in_ok-tree_made-in-Coupled-clause-ok : goal.part_made-returns-in_ok-tree_made-in-Coupled-clause-ok
part_made-returns-in_ok-tree_made-in-Coupled-clause-ok t c = λ name rest. coupled_made c.args.part.now name rest _ _ c.in-Coupled.is c.in_ok-tree_made-in-Coupled.ensures.ok c.in_ok-tree_made-in-Coupled.ensures.couplings

pub part_made-returns-in_err-tree_made-in-Coupled-clause-err : goal.part_made-returns-in_err-tree_made-in-Coupled-clause-err
part_made-returns-in_err-tree_made-in-Coupled-clause-err t c =
    passed_on c.from_residual-in_err-tree_made-in-Coupled.result c.in_err-tree_made-in-Coupled.field-0.0 (λ e. (name : List ℕ) (rest : Parts AnyDraft) → tree_made (part_view c.args.part.now name rest) ≡ Err e) c.from_residual-in_err-tree_made-in-Coupled.ensures.1
    (λ other name rest. coupled_fails c.args.part.now name rest _ _ c.in-Coupled.is (c.in_err-tree_made-in-Coupled.ensures.err other))
