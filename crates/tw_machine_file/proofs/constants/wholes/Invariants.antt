use Rattle.std.proofs.Common.{◌≡◌, drop}
use Rattle.serde_json.specs.View.{items_view}
use Rattle.tw_machine_file.specs.Constants.{wholes}
use Rattle.tw_machine_file.proofs.Loops.{behind}
use Rattle.tw_machine_file.proofs.constants.wholes.Given as goal

-- what has come, and what is to come
abbrev pub invariant-loop-value : goal.invariant-loop-value
invariant-loop-value l = behind l.read.items (wholes l.part (items_view (drop l.value-index l.values))) ≡ wholes l.part (items_view l.values)
