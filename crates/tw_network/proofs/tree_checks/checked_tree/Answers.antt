use Rattle.std.proofs.Common.{None, Some}
use Rattle.tw_nested.specs.Tree.{parts_of}
use Rattle.tw_network.proofs.FirstFault.{passed_on}
use Rattle.tw_network.proofs.FirstTreeFault.{tree_fault_of_counts, tree_fault_of_limit, tree_fault_of_models}
use Rattle.tw_network.proofs.tree_checks.checked_tree.Goals as goal

pub returns-in_err-check_tree_counts-clause-err : goal.returns-in_err-check_tree_counts-clause-err
returns-in_err-check_tree_counts-clause-err g c =
    passed_on c.from_residual.result c.in_err-check_tree_counts.field-0.0 _ c.from_residual.ensures.1
    (λ ne. tree_fault_of_counts g.M.Atomic.meaning (parts_of c.args.root.now.parts.items) c.args.root.now.couplings.items c.args.inputs.now c.args.micro_limit c.in_err-check_tree_counts.field-0.0 c.in_err-check_tree_counts.ensures)

pub returns-in_err-micro_limit-clause-err : goal.returns-in_err-micro_limit-clause-err
returns-in_err-micro_limit-clause-err g c =
    passed_on c.from_residual-in_err-micro_limit.result c.in_err-micro_limit.field-0.0 _ c.from_residual-in_err-micro_limit.ensures.1
    (λ ne. tree_fault_of_limit g.M.Atomic.meaning (parts_of c.args.root.now.parts.items) c.args.root.now.couplings.items c.args.inputs.now c.args.micro_limit c.in_ok-check_tree_counts.ensures c.in_err-micro_limit.field-0.0 c.in_err-micro_limit.ensures.fault)

pub returns-in_err-check_models-clause-err : goal.returns-in_err-check_models-clause-err
returns-in_err-check_models-clause-err g c =
    passed_on c.from_residual-in_err-check_models.result c.in_err-check_models.field-0.0 _ c.from_residual-in_err-check_models.ensures.1
    (λ ne. tree_fault_of_models g.M.Atomic.meaning (parts_of c.args.root.now.parts.items) c.args.root.now.couplings.items c.args.inputs.now c.args.micro_limit c.in_ok-check_tree_counts.ensures c.in_ok-micro_limit.ensures.fault (Some c.in_err-check_models.field-0.0) (c.in_err-check_models.ensures.err ne))

pub returns-clause-ok : goal.returns-clause-ok
returns-clause-ok g c =
    tree_fault_of_models g.M.Atomic.meaning (parts_of c.args.root.now.parts.items) c.args.root.now.couplings.items c.args.inputs.now c.args.micro_limit c.in_ok-check_tree_counts.ensures c.in_ok-micro_limit.ensures.fault None c.in_ok-check_models.ensures.ok
