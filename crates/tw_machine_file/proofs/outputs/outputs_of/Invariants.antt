use Rattle.std.proofs.Common.{◌≡◌, drop, map}
use Rattle.serde_json.specs.View.{items_view}
use Rattle.tw_machine_declaration.specs.Seen.{output}
use Rattle.tw_machine_file.specs.Outputs.{outputs_of}
use Rattle.tw_machine_file.specs.Texts.{language_of}
use Rattle.tw_machine_file.proofs.Loops.{behind}
use Rattle.tw_machine_file.proofs.outputs.outputs_of.Given as goal

-- what has come, and what is to come
abbrev pub invariant-loop-index : goal.invariant-loop-index
invariant-loop-index l =
    behind (map output l.outputs.items) (outputs_of (language_of l.language) l.sender l.index (items_view (drop l.index l.values)))
    ≡ outputs_of (language_of l.language) l.sender 0 (items_view l.values)
