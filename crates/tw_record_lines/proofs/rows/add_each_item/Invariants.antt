-- what is written and what is still to come are the lines
use Rattle.std.proofs.Common.{◌≡◌, ◌++◌, drop}
use Rattle.std.specs.Prelude.{flat_map, map}
use Rattle.tw_record_lines.specs.Fields.{field}
use Rattle.tw_record_lines.specs.Tables.{item_row, items_rows}
use Rattle.tw_record_lines.proofs.rows.add_each_item.Given as goal

abbrev pub invariant-loop-item : goal.invariant-loop-item
invariant-loop-item l =
    l.lines.text ++ flat_map (item_row (map field l.fields) l.cells.name.now l.cells.at l.cells.kind) (drop l.item-index l.bag) ≡ l.fn.lines.text ++ items_rows (map field l.fields) l.cells.name.now l.cells.at l.cells.kind l.bag
