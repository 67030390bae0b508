use Rattle.std.proofs.Common.{◌≡◌, drop, map, string_bytes}
use Rattle.serde_json.specs.View.{view}
use Rattle.tw_machine_file.specs.Given.{lists_given}
use Rattle.tw_machine_file.proofs.Loops.{behind}
use Rattle.tw_machine_file.proofs.given.lists_given.Given as goal

-- what has come, and what is to come
abbrev pub invariant-loop-index : goal.invariant-loop-index
invariant-loop-index l =
    behind (map (λ list. list.items) l.lists.items) (lists_given (view l.value) l.index (map string_bytes (drop l.index l.names)))
    ≡ lists_given (view l.value) 0 (map string_bytes l.names)
