use Rattle.std.proofs.Common.{◌∙◌, ap, map, sym}
use Rattle.serde_json.specs.View.{view}
use Rattle.tw_machine_file.specs.Seen.{machine}
use Rattle.tw_file_network.specs.Draft.{draft_view}
use Rattle.tw_file_network.specs.TreeDraft.{tree_view}
use Rattle.tw_file_network.specs.TreeMeaning.{IsFaultOfValue}
use Rattle.tw_file_network.proofs.AnyFormat.{flat_fails, flat_means, no_draft, no_machines, no_tree, tree_fails, tree_means}
use Rattle.tw_file_network.proofs.MachinesOfFile.{fails, means, no_shape}
use Rattle.tw_file_network.proofs.PartsInOrder.{passed_on}
use Rattle.tw_file_network.proofs.trees.network_of_value.Goals as goal

pub returns-in_err-tree-2-clause-first_fault : goal.returns-in_err-tree-2-clause-first_fault
returns-in_err-tree-2-clause-first_fault c =
    passed_on c.from_residual-in_err-tree-2.result c.in_err-tree-2.field-0.0 (IsFaultOfValue (view c.args.value.now)) c.from_residual-in_err-tree-2.ensures.1
    (λ other. no_shape (view c.args.value.now) (map machine c.in_ok-machines.machines.items) (map machine c.as_slice.result.now)
    (sym c.is_tree.ensures ∙ c.if-is_tree.false) c.in_ok-machines.ensures.ok (ap (map machine) c.as_slice.ensures.value)
    c.in_err-tree-2.field-0.0 (c.in_err-tree-2.ensures.err other))

pub returns-then-has_machines-clause-network : goal.returns-then-has_machines-clause-network
returns-then-has_machines-clause-network c =
    means (view c.args.value.now) (map machine c.in_ok-machines.machines.items) (map machine c.as_slice.result.now)
    (sym c.is_tree.ensures ∙ c.if-is_tree.false) c.in_ok-machines.ensures.ok (ap (map machine) c.as_slice.ensures.value)
    (tree_view c.in_ok-tree-2.tree) c.in_ok-tree-2.ensures.ok c.network_of_tree-then-has_machines.result c.network_of_tree-then-has_machines.ensures.ok

pub returns-then-has_machines-clause-first_fault : goal.returns-then-has_machines-clause-first_fault
returns-then-has_machines-clause-first_fault c =
    fails (view c.args.value.now) (map machine c.in_ok-machines.machines.items) (map machine c.as_slice.result.now)
    (sym c.is_tree.ensures ∙ c.if-is_tree.false) c.in_ok-machines.ensures.ok (ap (map machine) c.as_slice.ensures.value)
    (tree_view c.in_ok-tree-2.tree) c.in_ok-tree-2.ensures.ok c.network_of_tree-then-has_machines.result c.network_of_tree-then-has_machines.ensures.err

pub returns-in_err-tree-clause-first_fault : goal.returns-in_err-tree-clause-first_fault
returns-in_err-tree-clause-first_fault c =
    passed_on c.from_residual.result c.in_err-tree.field-0.0 (IsFaultOfValue (view c.args.value.now)) c.from_residual.ensures.1
    (λ other. no_tree (view c.args.value.now) (sym c.is_tree.ensures ∙ c.if-is_tree.true) c.in_err-tree.field-0.0 (c.in_err-tree.ensures.err other))

pub returns-in_err-machines-clause-first_fault : goal.returns-in_err-machines-clause-first_fault
returns-in_err-machines-clause-first_fault c =
    passed_on c.from_residual-in_err-machines.result c.in_err-machines.field-0.0 (IsFaultOfValue (view c.args.value.now)) c.from_residual-in_err-machines.ensures.1
    (λ other. no_machines (view c.args.value.now) (sym c.is_tree.ensures ∙ c.if-is_tree.false) (sym c.has_machines.ensures ∙ c.if-has_machines.true) c.in_err-machines.field-0.0 (c.in_err-machines.ensures.err other))

pub returns-in_err-draft-clause-first_fault : goal.returns-in_err-draft-clause-first_fault
returns-in_err-draft-clause-first_fault c =
    passed_on c.from_residual-in_err-draft.result c.in_err-draft.field-0.0 (IsFaultOfValue (view c.args.value.now)) c.from_residual-in_err-draft.ensures.1
    (λ other. no_draft (view c.args.value.now) (sym c.is_tree.ensures ∙ c.if-is_tree.false) (sym c.has_machines.ensures ∙ c.if-has_machines.false) c.in_err-draft.field-0.0 (c.in_err-draft.ensures.err other))

pub returns-then-is_tree-clause-network : goal.returns-then-is_tree-clause-network
returns-then-is_tree-clause-network c =
    tree_means (view c.args.value.now) (sym c.is_tree.ensures ∙ c.if-is_tree.true) (tree_view c.in_ok-tree.tree) c.in_ok-tree.ensures.ok
    c.network_of_tree.result c.network_of_tree.ensures.ok

pub returns-then-is_tree-clause-first_fault : goal.returns-then-is_tree-clause-first_fault
returns-then-is_tree-clause-first_fault c =
    tree_fails (view c.args.value.now) (sym c.is_tree.ensures ∙ c.if-is_tree.true) (tree_view c.in_ok-tree.tree) c.in_ok-tree.ensures.ok
    c.network_of_tree.result c.network_of_tree.ensures.err

pub returns-clause-network : goal.returns-clause-network
returns-clause-network c =
    flat_means (view c.args.value.now) (sym c.is_tree.ensures ∙ c.if-is_tree.false) (sym c.has_machines.ensures ∙ c.if-has_machines.false) (draft_view c.in_ok-draft.draft) c.in_ok-draft.ensures.ok
    c.network_of.result c.network_of.ensures.ok

pub returns-clause-first_fault : goal.returns-clause-first_fault
returns-clause-first_fault c =
    flat_fails (view c.args.value.now) (sym c.is_tree.ensures ∙ c.if-is_tree.false) (sym c.has_machines.ensures ∙ c.if-has_machines.false) (draft_view c.in_ok-draft.draft) c.in_ok-draft.ensures.ok
    c.network_of.result c.network_of.ensures.err
