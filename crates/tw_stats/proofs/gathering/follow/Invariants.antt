-- The records of the rounds so far are gathered; the rounds still to be made complete the run, and their times rise.
use Rattle.std.proofs.Common.{◌≡◌, ◌-◌, ℕ, ℤ, List, []}
use Rattle.tw_figures.specs.Gathered.{IsGathered, followed_of_all}
use Rattle.tw_msgs.specs.declared.record.Record.{Record}
use Rattle.tw_rounds.specs.Parts.{IsSimulating}
use Rattle.tw_theory.specs.Simulator.{round_time}
use Rattle.tw_vtime.specs.Stamps.{stamp}
use Rattle.tw_stats.proofs.gathering.follow.Given as goal

abbrev pub invariant-loop-transitions : goal.invariant-loop-transitions
invariant-loop-transitions g l = record {
  done : List Record;
  so_far : IsSimulating g.M.Atomic.valid g.M.Atomic.meaning l.network done l.simulation;
  until : l.simulation.until ≡ l.fn.simulation.until;
  gathered : (from : ℕ) (starts : List (List ℤ)) → IsGathered from starts [] l.fn.gathered → IsGathered from starts done l.gathered;
  followed : followed_of_all l.gathered.members.items ≡ followed_of_all l.fn.gathered.members.items;
  no_outputs : l.outputs.items ≡ [];
  no_transitions : l.transitions.items ≡ [];
}

abbrev pub decreases-loop-transitions : goal.decreases-loop-transitions
decreases-loop-transitions g l = stamp l.fn.simulation.until 0 0 - round_time l.simulation.run.at
