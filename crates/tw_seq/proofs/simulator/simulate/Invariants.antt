-- The records are those of the rounds so far; the rounds still to be made complete the run, and their times rise.
use Rattle.std.proofs.Common.{◌-◌, ◌≡◌, []}
use Rattle.tw_rounds.specs.Parts.{IsSimulating}
use Rattle.tw_theory.specs.Simulator.{round_time}
use Rattle.tw_vtime.specs.Stamps.{stamp}
use Rattle.tw_seq.proofs.simulator.simulate.Given as goal

abbrev pub invariant-loop-transitions : goal.invariant-loop-transitions
invariant-loop-transitions g l = record {
  so_far : IsSimulating g.M.Atomic.valid g.M.Atomic.meaning l.network l.records.items l.simulation;
  until : l.simulation.until ≡ l.until;
  none : l.transitions.items ≡ [];
}

abbrev pub decreases-loop-transitions : goal.decreases-loop-transitions
decreases-loop-transitions g l = stamp l.until 0 0 - round_time l.simulation.run.at
