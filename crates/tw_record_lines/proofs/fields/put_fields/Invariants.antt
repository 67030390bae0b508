-- the numbers of the fields from `left` on are written, each behind a comma
use Rattle.std.proofs.Common.{◌≡◌, ◌+◌, ◌*◌, ◌-◌, ◌≤◌, ◌++◌, drop, length, map}
use Rattle.tw_record_lines.specs.Fields.{field, field_cells}
use Rattle.tw_record_lines.proofs.fields.put_fields.Given as goal

abbrev pub invariant-loop-left : goal.invariant-loop-left
invariant-loop-left l =
    (l.left ≤ length l.fields) × (l.start ≤ l.end) × (l.end ≤ l.start + 21 * (length l.fields - l.left))
    × (drop l.start l.line ≡ field_cells (map field (drop l.left l.fields)) l.value ++ drop l.end l.fn.line)

abbrev pub decreases-loop-left : goal.decreases-loop-left
decreases-loop-left l = l.left
