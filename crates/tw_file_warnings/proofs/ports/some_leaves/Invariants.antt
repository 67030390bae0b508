use Rattle.std.proofs.Common.{◌≡◌, drop}
use Rattle.serde_json.specs.View.{items_view}
use Rattle.tw_machine_file.specs.Used.{some_item}
use Rattle.tw_file_warnings.specs.Ports.{leaves}
use Rattle.tw_file_warnings.proofs.ports.some_leaves.Given as goal

-- none of those that have come does
abbrev pub invariant-loop-coupling : goal.invariant-loop-coupling
invariant-loop-coupling l = some_item (leaves l.name l.port) (items_view (drop l.coupling-index l.couplings)) ≡ some_item (leaves l.name l.port) (items_view l.couplings)
