-- The records of the rounds so far are not kept; the rounds still to be made complete the run, and their times rise.
use Rattle.std.proofs.Common.{◌-◌, ◌≡◌, List}
use Rattle.tw_msgs.specs.declared.record.Record.{Record}
use Rattle.tw_rounds.specs.Parts.{IsSimulating}
use Rattle.tw_theory.specs.Simulator.{round_time}
use Rattle.tw_vtime.specs.Stamps.{stamp}
use Rattle.tw_listen.proofs.outcome.run_out.Given as goal

abbrev pub invariant-loop-simulation : goal.invariant-loop-simulation
invariant-loop-simulation g l = record {
  done : List Record;
  so_far : IsSimulating g.M.Atomic.valid g.M.Atomic.meaning l.network done l.simulation;
  until : l.simulation.until ≡ l.fn.simulation.until;
}

abbrev pub decreases-loop-simulation : goal.decreases-loop-simulation
decreases-loop-simulation g l = stamp l.fn.simulation.until 0 0 - round_time l.simulation.run.at
