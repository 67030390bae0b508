-- The records so far were handed over; the writer and the lines that are gathered have their text.
use Rattle.std.proofs.Common.{◌≡◌, ◌-◌, List, []}
use Rattle.tw_msgs.specs.declared.record.Record.{Record}
use Rattle.tw_rounds.specs.Parts.{IsSimulating}
use Rattle.tw_texts.specs.Texts.{trace_text}
use Rattle.tw_texts.specs.Traces.{MovesBytes}
use Rattle.tw_theory.specs.Simulator.{round_time}
use Rattle.tw_vtime.specs.Stamps.{stamp}
use Rattle.tw_record_lines.proofs.trace.write_lines.Given as goal

abbrev pub invariant-loop-step : goal.invariant-loop-step
invariant-loop-step g l = record {
  done : List Record;
  so_far : IsSimulating g.M.Atomic.valid g.M.Atomic.meaning l.network done l.simulation;
  until : l.simulation.until ≡ l.until;
  names : l.outputs.names.now ≡ l.names;
  names' : l.transitions.names.now ≡ l.names;
  none : l.transitions.lines.text ≡ [];
  written : MovesBytes (g.W.Write.contents l.fn.out) (g.W.Write.contents l.out) (trace_text (g.N.Names.name_of l.names) done) l.outputs.lines.text;
}

abbrev pub decreases-loop-step : goal.decreases-loop-step
decreases-loop-step g l = stamp l.until 0 0 - round_time l.simulation.run.at
