use Rattle.std.proofs.Common.{◌≡◌, drop, string_bytes}
use Rattle.serde_json.specs.View.{items_view}
use Rattle.tw_machine_file.specs.Texts.{more_lines}
use Rattle.tw_machine_file.proofs.Loops.{lines_after}
use Rattle.tw_machine_file.proofs.texts.lines_behind.Given as goal

-- what has come, and what is to come
abbrev pub invariant-loop-value : goal.invariant-loop-value
invariant-loop-value l = lines_after (string_bytes l.text) (more_lines (items_view (drop l.value-index l.values))) ≡ lines_after l.first (more_lines (items_view l.values))
