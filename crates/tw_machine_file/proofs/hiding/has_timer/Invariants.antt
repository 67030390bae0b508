use Rattle.std.proofs.Common.{◌≡◌, drop}
use Rattle.serde_json.specs.View.{items_view}
use Rattle.tw_machine_file.specs.Shared.{is_timer}
use Rattle.tw_machine_file.specs.Used.{some_item}
use Rattle.tw_machine_file.proofs.hiding.has_timer.Given as goal

abbrev pub invariant-loop-value : goal.invariant-loop-value
invariant-loop-value l = some_item (is_timer l.text) (items_view (drop l.value-index l.values)) ≡ some_item (is_timer l.text) (items_view l.values)
