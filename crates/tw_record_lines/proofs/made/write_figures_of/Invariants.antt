-- The records so far were taken; the writer and the lines that are kept have what they bring.
use Rattle.std.proofs.Common.{◌++◌, [], string_bytes, take}
use Rattle.tw_figures.specs.Gathered.{start_words}
use Rattle.tw_network.specs.Contents.{network_of}
use Rattle.tw_texts.specs.Traces.{MovesBytes}
use Rattle.tw_record_lines.specs.FigureTables.{figures_head, table_of}
use Rattle.tw_record_lines.specs.Gathering.{FiguresStand, rows_behind}
use Rattle.tw_record_lines.proofs.made.write_figures_of.Given as goal

abbrev pub invariant-loop-record : goal.invariant-loop-record
invariant-loop-record g l = record {
  stand : FiguresStand (table_of (g.N.Names.name_of l.table.names.now) l.table.labels.now l.table.shown.now l.table.from) (start_words (network_of g.M.Atomic.meaning l.network)) (take l.record-index l.records) l.lines;
  written : MovesBytes (g.W.Write.contents l.fn.out) (g.W.Write.contents l.out)
      (figures_head ++ rows_behind (table_of (g.N.Names.name_of l.table.names.now) l.table.labels.now l.table.shown.now l.table.from) (start_words (network_of g.M.Atomic.meaning l.network)) [] (take l.record-index l.records)) (string_bytes l.lines.text);
}
