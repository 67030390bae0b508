-- The records of the rounds so far were handed over; the rounds still to be made complete the run, and their times rise.
use Rattle.std.proofs.Common.{◌≡◌, ◌-◌, List}
use Rattle.tw_msgs.specs.declared.record.Record.{Record}
use Rattle.tw_rounds.specs.Parts.{IsSimulating}
use Rattle.tw_theory.specs.Simulator.{round_time}
use Rattle.tw_vtime.specs.Stamps.{stamp}
use Rattle.tw_run_picture.proofs.following.make_rounds.Given as goal

abbrev pub invariant-loop-transitions : goal.invariant-loop-transitions
invariant-loop-transitions g l = record {
  done : List Record;
  so_far : IsSimulating g.M.Atomic.valid g.M.Atomic.meaning l.network done l.simulation;
  until : l.simulation.until ≡ l.initial.simulation.until;
}

abbrev pub decreases-loop-transitions : goal.decreases-loop-transitions
decreases-loop-transitions g l = stamp l.initial.simulation.until 0 0 - round_time l.simulation.run.at
