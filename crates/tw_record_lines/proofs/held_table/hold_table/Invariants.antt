-- The records so far were handed over, and the lines that are held are the table of them.
use Rattle.std.proofs.Common.{◌≡◌, ◌-◌, List, [], map}
use Rattle.tw_msgs.specs.declared.record.Record.{Record}
use Rattle.tw_rounds.specs.Parts.{IsSimulating}
use Rattle.tw_record_lines.specs.Fields.{field}
use Rattle.tw_record_lines.specs.Tables.{listed, table_text}
use Rattle.tw_theory.specs.Simulator.{round_time}
use Rattle.tw_vtime.specs.Stamps.{stamp}
use Rattle.tw_record_lines.proofs.held_table.hold_table.Given as goal

abbrev pub invariant-loop-simulation : goal.invariant-loop-simulation
invariant-loop-simulation g l = record {
  done : List Record;
  so_far : IsSimulating g.M.Atomic.valid g.M.Atomic.meaning l.network done l.simulation;
  until : l.simulation.until ≡ l.until;
  names : l.outputs.names.now ≡ l.table.names.now;
  names' : l.transitions.names.now ≡ l.table.names.now;
  kinds : l.outputs.rows ≡ l.table.rows;
  kinds' : l.transitions.rows ≡ l.table.rows;
  fields : l.outputs.fields.now ≡ l.table.fields.now;
  fields' : l.transitions.fields.now ≡ l.table.fields.now;
  shows : l.outputs.shown.now ≡ l.table.shown.now;
  shows' : l.transitions.shown.now ≡ l.table.shown.now;
  first : l.outputs.from ≡ l.table.from;
  first' : l.transitions.from ≡ l.table.from;
  none : l.transitions.lines.text ≡ [];
  held : l.outputs.lines.text ≡ table_text l.table.rows (map field l.table.fields.now) (g.N.Names.name_of l.table.names.now) (listed l.table.shown.now l.table.from done);
}

abbrev pub decreases-loop-simulation : goal.decreases-loop-simulation
decreases-loop-simulation g l = stamp l.until 0 0 - round_time l.simulation.run.at
