use Rattle.std.proofs.Common.{◌≡◌}
use Rattle.tw_nested.specs.Tree.{parts_of}
use Rattle.tw_file_network.specs.TreeShape.{tree_made}
use Rattle.tw_file_network.proofs.PartsInOrder.{models_left}
use Rattle.tw_file_network.proofs.tree_models.+made.Given as goal

abbrev pub invariant-tree_made-loop-name : goal.invariant-tree_made-loop-name
invariant-tree_made-loop-name l = tree_made (parts_of l.draft.parts.items) ≡ models_left l.draft.parts.items l.parts.items l.name-index
