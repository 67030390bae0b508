-- Each trace, by computing the rounds.
use Rattle.std.proofs.Common.{refl}
use Rattle.tw_theory.specs.Simulator.{sequential, rounds, round}
use Rattle.tw_theory.specs.Transitions.{output, moved, transition}
use Rattle.tw_theory.proofs.examples.traces.Goals as goal

pub returns-clause-gen_tally : goal.returns-clause-gen_tally
unfolding sequential rounds round output moved transition
returns-clause-gen_tally c = record { records_are = refl; fault_is = refl }

pub returns-clause-until_zero : goal.returns-clause-until_zero
unfolding sequential rounds round output moved transition
returns-clause-until_zero c = record { records_are = refl; fault_is = refl }

pub returns-clause-no_components : goal.returns-clause-no_components
unfolding sequential rounds round output moved transition
returns-clause-no_components c = record { records_are = refl; fault_is = refl }

pub returns-clause-two_gens : goal.returns-clause-two_gens
unfolding sequential rounds round output moved transition
returns-clause-two_gens c = record { records_are = refl; fault_is = refl }

pub returns-clause-equal_values : goal.returns-clause-equal_values
unfolding sequential rounds round output moved transition
returns-clause-equal_values c = record { records_are = refl; fault_is = refl }

pub returns-clause-relay_microstep : goal.returns-clause-relay_microstep
unfolding sequential rounds round output moved transition
returns-clause-relay_microstep c = record { records_are = refl; fault_is = refl }

pub returns-clause-microstep_fault : goal.returns-clause-microstep_fault
unfolding sequential rounds round output moved transition
returns-clause-microstep_fault c = record { records_are = refl; fault_is = refl }

pub returns-clause-mutual_confluent : goal.returns-clause-mutual_confluent
unfolding sequential rounds round output moved transition
returns-clause-mutual_confluent c = record { records_are = refl; fault_is = refl }

pub returns-clause-last_tick : goal.returns-clause-last_tick
unfolding sequential rounds round output moved transition
returns-clause-last_tick c = record { records_are = refl; fault_is = refl }

pub returns-clause-tick_fault : goal.returns-clause-tick_fault
unfolding sequential rounds round output moved transition
returns-clause-tick_fault c = record { records_are = refl; fault_is = refl }
