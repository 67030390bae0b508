-- The records so far were handed over; the writer and the lines that are gathered have the table of them.
use Rattle.std.proofs.Common.{◌≡◌, ◌-◌, List, [], map}
use Rattle.tw_msgs.specs.declared.record.Record.{Record}
use Rattle.tw_rounds.specs.Parts.{IsSimulating}
use Rattle.tw_record_lines.specs.Fields.{field}
use Rattle.tw_record_lines.specs.Tables.{listed, table_text}
use Rattle.tw_texts.specs.Traces.{MovesBytes}
use Rattle.tw_theory.specs.Simulator.{round_time}
use Rattle.tw_vtime.specs.Stamps.{stamp}
use Rattle.tw_record_lines.proofs.table.write_table.Given as goal

abbrev pub invariant-loop-step : goal.invariant-loop-step
invariant-loop-step g l = record {
  done : List Record;
  so_far : IsSimulating g.M.Atomic.valid g.M.Atomic.meaning l.network done l.simulation;
  until : l.simulation.until ≡ l.until;
  names : l.outputs.names.now ≡ l.table.names.now;
  names' : l.transitions.names.now ≡ l.table.names.now;
  kinds : l.outputs.rows ≡ l.table.rows;
  kinds' : l.transitions.rows ≡ l.table.rows;
  fields : l.outputs.fields.now ≡ l.table.fields.now;
  fields' : l.transitions.fields.now ≡ l.table.fields.now;
  shows : l.outputs.shown.now ≡ l.table.shown.now;
  shows' : l.transitions.shown.now ≡ l.table.shown.now;
  first : l.outputs.from ≡ l.table.from;
  first' : l.transitions.from ≡ l.table.from;
  none : l.transitions.lines.text ≡ [];
  written : MovesBytes (g.W.Write.contents l.fn.out) (g.W.Write.contents l.out) (table_text l.table.rows (map field l.table.fields.now) (g.N.Names.name_of l.table.names.now) (listed l.table.shown.now l.table.from done)) l.outputs.lines.text;
}

abbrev pub decreases-loop-step : goal.decreases-loop-step
decreases-loop-step g l = stamp l.until 0 0 - round_time l.simulation.run.at
