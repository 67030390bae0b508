use Rattle.std.proofs.Common.{◌≡◌, drop}
use Rattle.serde_json.specs.View.{items_view}
use Rattle.tw_machine_file.specs.Constants.{constants, numbers_in}
use Rattle.tw_machine_file.proofs.Loops.{behind}
use Rattle.tw_machine_file.proofs.constants.constants.Given as goal

-- what has come, and what is to come
abbrev pub invariant-loop-value : goal.invariant-loop-value
invariant-loop-value l =
    behind l.read.items (constants l.part (numbers_in l.numbers) (items_view (drop l.value-index l.values)))
    ≡ constants l.part (numbers_in l.numbers) (items_view l.values)
