-- The records so far were taken.
use Rattle.std.proofs.Common.{◌≡◌, ◌++◌, ℤ, List, string_bytes, take}
use Rattle.tw_msgs.specs.declared.record.Record.{Record}
use Rattle.tw_record_lines.specs.FigureTables.{table_of}
use Rattle.tw_record_lines.specs.Gathering.{FiguresStand, rows_behind}
use Rattle.tw_record_lines.proofs.figure_lines.FigureLines.take_all.Given as goal

abbrev pub invariant-loop-step : goal.invariant-loop-step
invariant-loop-step g l = record {
  stand : (starts : List (List ℤ)) (front : List Record)
      → FiguresStand (table_of (g.N.Names.name_of l.table.names.now) l.table.labels.now l.table.shown.now l.table.from) starts front l.fn.self
      → FiguresStand (table_of (g.N.Names.name_of l.table.names.now) l.table.labels.now l.table.shown.now l.table.from) starts (front ++ take l.step-index l.steps) l.self;
  text : (starts : List (List ℤ)) (front : List Record)
      → FiguresStand (table_of (g.N.Names.name_of l.table.names.now) l.table.labels.now l.table.shown.now l.table.from) starts front l.fn.self
      → string_bytes l.self.text ≡ string_bytes l.fn.self.text ++ rows_behind (table_of (g.N.Names.name_of l.table.names.now) l.table.labels.now l.table.shown.now l.table.from) starts front (take l.step-index l.steps);
}
