-- By computing what the values say.
use Rattle.std.proofs.Common.{refl}
use Rattle.tw_machine_file.specs.Machine.{language}
use Rattle.tw_machine_file.specs.Said.{program_said, tree_said}
use Rattle.tw_machine_file.proofs.examples.machines.Goals as goal

pub returns-clause-source : goal.returns-clause-source
unfolding program_said tree_said language
returns-clause-source c = record { declares = refl }

pub returns-clause-no_name : goal.returns-clause-no_name
returns-clause-no_name c = refl

pub returns-clause-machine_twice : goal.returns-clause-machine_twice
returns-clause-machine_twice c = refl

pub returns-clause-reserved_register : goal.returns-clause-reserved_register
returns-clause-reserved_register c = refl

pub returns-clause-list_as_constant : goal.returns-clause-list_as_constant
returns-clause-list_as_constant c = refl

pub returns-clause-queue_of_three : goal.returns-clause-queue_of_three
returns-clause-queue_of_three c = refl

pub returns-clause-name_of_two_kinds : goal.returns-clause-name_of_two_kinds
returns-clause-name_of_two_kinds c = refl

pub returns-clause-open_program : goal.returns-clause-open_program
unfolding program_said tree_said language
returns-clause-open_program c = refl

pub returns-clause-queue_twice : goal.returns-clause-queue_twice
unfolding program_said tree_said language
returns-clause-queue_twice c = refl
