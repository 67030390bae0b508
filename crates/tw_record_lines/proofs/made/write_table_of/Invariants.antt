-- The records so far have their lines; the writer and the lines that are gathered have the table of them.
use Rattle.std.proofs.Common.{◌≡◌, map, take}
use Rattle.tw_record_lines.specs.Fields.{field}
use Rattle.tw_record_lines.specs.Tables.{listed, table_text}
use Rattle.tw_texts.specs.Traces.{MovesBytes}
use Rattle.tw_record_lines.proofs.made.write_table_of.Given as goal

abbrev pub invariant-loop-record : goal.invariant-loop-record
invariant-loop-record g l = record {
  names : l.lines.names.now ≡ l.table.names.now;
  kinds : l.lines.rows ≡ l.table.rows;
  fields : l.lines.fields.now ≡ l.table.fields.now;
  shows : l.lines.shown.now ≡ l.table.shown.now;
  first : l.lines.from ≡ l.table.from;
  written : MovesBytes (g.W.Write.contents l.fn.out) (g.W.Write.contents l.out)
      (table_text l.table.rows (map field l.table.fields.now) (g.N.Names.name_of l.table.names.now) (listed l.table.shown.now l.table.from (take l.record-index l.records))) l.lines.lines.text;
}
