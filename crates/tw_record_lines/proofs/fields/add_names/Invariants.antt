-- what is written and what is still to come are the names
use Rattle.std.proofs.Common.{◌≡◌, ◌++◌, drop, map}
use Rattle.tw_record_lines.specs.Fields.{field, field_heads}
use Rattle.tw_record_lines.proofs.fields.add_names.Given as goal

abbrev pub invariant-loop-column : goal.invariant-loop-column
invariant-loop-column l =
    l.lines.text ++ field_heads (map field (drop l.column-index l.fields)) ≡ l.fn.lines.text ++ field_heads (map field l.fields)
