use Rattle.std.proofs.Common.{◌≡◌, [], drop, map, string_bytes}
use Rattle.serde_json.specs.View.{view, items_view}
use Rattle.tw_machine_file.specs.Machines.{machines_behind}
use Rattle.tw_machine_file.specs.Seen.{machine}
use Rattle.tw_machine_file.specs.Shared.{shared}
use Rattle.tw_machine_file.proofs.Loops.{behind}
use Rattle.tw_machine_file.proofs.machines.machines_behind.Given as goal

-- what has come, and what is to come
abbrev pub invariant-loop-value : goal.invariant-loop-value
invariant-loop-value l =
    behind (map machine l.machines.items) (machines_behind (view l.file) (shared l.said) (map string_bytes l.names.items) (items_view (drop l.value-index l.values)))
    ≡ machines_behind (view l.file) (shared l.said) [] (items_view l.values)
