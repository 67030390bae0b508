use Rattle.std.proofs.Common.{◌≡◌, ◌++◌, map, drop}
use Rattle.tw_nested.specs.Tree.{parts_of}
use Rattle.tw_file_network.specs.TreeShape.{part_names}
use Rattle.tw_file_network.proofs.tree_shape.part_names.Given as goal

abbrev pub invariant-loop-name : goal.invariant-loop-name
invariant-loop-name l = part_names (parts_of l.parts) ≡ map (λ n. n.now) l.names.items ++ part_names (parts_of (drop l.name-index l.parts))
