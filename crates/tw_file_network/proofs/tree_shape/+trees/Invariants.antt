use Rattle.std.proofs.Common.{◌≡◌, ◌+◌, ◌*◌, map}
use Rattle.serde_json.specs.View.{items_view}
use Rattle.tw_machine_file.specs.Seen.{machine}
use Rattle.tw_file_network.specs.TreeShape.{parts_read, tree_read}
use Rattle.tw_file_network.proofs.PartsInOrder.{parts_left}
use Rattle.tw_file_network.proofs.tree_shape.+trees.Given as goal

abbrev pub decreases-tree_read : goal.decreases-tree_read
decreases-tree_read l = 3 * l.room

abbrev pub decreases-parts_read : goal.decreases-parts_read
decreases-parts_read l = 3 * l.room + 2

abbrev pub decreases-part_read : goal.decreases-part_read
decreases-part_read l = 3 * l.room + 1

abbrev pub invariant-parts_read-loop-value : goal.invariant-parts_read-loop-value
invariant-parts_read-loop-value l = parts_read (map machine l.machines) (tree_read (map machine l.machines) l.room) (items_view l.values) ≡ parts_left (map machine l.machines) (tree_read (map machine l.machines) l.room) l.values l.parts.items l.value-index
