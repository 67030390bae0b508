use Rattle.std.proofs.Common.{◌≡◌, drop}
use Rattle.std.specs.Result.{result_err}
use Rattle.tw_nested.specs.Tree.{parts_of}
use Rattle.tw_file_network.specs.TreeShape.{tree_made}
use Rattle.tw_file_network.proofs.tree_models.+faults.Given as goal

-- no fault in those before
abbrev pub invariant-tree_fault-loop-part : goal.invariant-tree_fault-loop-part
invariant-tree_fault-loop-part l = result_err (tree_made (parts_of l.draft.parts.items)) ≡ result_err (tree_made (parts_of (drop l.part-index l.draft.parts.items)))
