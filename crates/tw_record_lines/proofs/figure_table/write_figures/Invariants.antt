-- The rounds so far were made; their times rise. The writer and the lines that are kept have what the records so far bring.
use Rattle.std.proofs.Common.{◌≡◌, ◌++◌, ◌-◌, List, [], string_bytes}
use Rattle.tw_figures.specs.Gathered.{start_words}
use Rattle.tw_msgs.specs.declared.record.Record.{Record}
use Rattle.tw_network.specs.Contents.{network_of}
use Rattle.tw_rounds.specs.Parts.{IsSimulating}
use Rattle.tw_texts.specs.Traces.{MovesBytes}
use Rattle.tw_theory.specs.Simulator.{round_time}
use Rattle.tw_vtime.specs.Stamps.{stamp}
use Rattle.tw_record_lines.specs.FigureTables.{figures_head, table_of}
use Rattle.tw_record_lines.specs.Gathering.{FiguresStand, rows_behind}
use Rattle.tw_record_lines.proofs.figure_table.write_figures.Given as goal

abbrev pub invariant-loop-step : goal.invariant-loop-step
invariant-loop-step g l = record {
  done : List Record;
  so_far : IsSimulating g.M.Atomic.valid g.M.Atomic.meaning l.network done l.simulation;
  until : l.simulation.until ≡ l.until;
  stand : FiguresStand (table_of (g.N.Names.name_of l.table.names.now) l.table.labels.now l.table.shown.now l.table.from) (start_words (network_of g.M.Atomic.meaning l.network)) done l.lines;
  written : MovesBytes (g.W.Write.contents l.fn.out) (g.W.Write.contents l.out)
      (figures_head ++ rows_behind (table_of (g.N.Names.name_of l.table.names.now) l.table.labels.now l.table.shown.now l.table.from) (start_words (network_of g.M.Atomic.meaning l.network)) [] done) (string_bytes l.lines.text);
  no_outputs : l.outputs.items ≡ [];
  no_transitions : l.transitions.items ≡ [];
}

abbrev pub decreases-loop-step : goal.decreases-loop-step
decreases-loop-step g l = stamp l.until 0 0 - round_time l.simulation.run.at
