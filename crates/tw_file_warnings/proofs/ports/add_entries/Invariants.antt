use Rattle.std.proofs.Common.{◌≡◌, ◌++◌, drop, map}
use Rattle.serde_json.specs.View.{view}
use Rattle.tw_machine_declaration.specs.Seen.{output}
use Rattle.tw_machine_warnings.specs.Warning.{warning}
use Rattle.tw_file_warnings.specs.Ports.{entries_warnings}
use Rattle.tw_file_warnings.proofs.ports.add_entries.Given as goal

-- what has come, and what is to come
abbrev pub invariant-loop-index : goal.invariant-loop-index
invariant-loop-index l =
    map warning l.warnings.items ++ entries_warnings (view l.model) l.name l.place l.index (map output (drop l.index l.entries))
    ≡ map warning l.fn.warnings.items ++ entries_warnings (view l.model) l.name l.place 0 (map output l.entries)
