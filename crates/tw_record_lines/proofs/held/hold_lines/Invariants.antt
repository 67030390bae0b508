-- The records so far were handed over, and the lines that are held have their text.
use Rattle.std.proofs.Common.{◌≡◌, ◌-◌, List, []}
use Rattle.tw_msgs.specs.declared.record.Record.{Record}
use Rattle.tw_rounds.specs.Parts.{IsSimulating}
use Rattle.tw_texts.specs.Texts.{trace_text}
use Rattle.tw_theory.specs.Simulator.{round_time}
use Rattle.tw_vtime.specs.Stamps.{stamp}
use Rattle.tw_record_lines.proofs.held.hold_lines.Given as goal

abbrev pub invariant-loop-simulation : goal.invariant-loop-simulation
invariant-loop-simulation g l = record {
  done : List Record;
  so_far : IsSimulating g.M.Atomic.valid g.M.Atomic.meaning l.network done l.simulation;
  until : l.simulation.until ≡ l.until;
  names : l.outputs.names.now ≡ l.names;
  names' : l.transitions.names.now ≡ l.names;
  none : l.transitions.lines.text ≡ [];
  held : l.outputs.lines.text ≡ trace_text (g.N.Names.name_of l.names) done;
}

abbrev pub decreases-loop-simulation : goal.decreases-loop-simulation
decreases-loop-simulation g l = stamp l.until 0 0 - round_time l.simulation.run.at
