-- By computing what the texts say.
use Rattle.std.proofs.Common.{refl}
use Rattle.tw_machine_file.specs.Said.{program_said, tree_said}
use Rattle.tw_machine_file.proofs.examples.timers.Goals as goal

pub returns-clause-end : goal.returns-clause-end
unfolding program_said tree_said
returns-clause-end c = refl

pub returns-clause-internal : goal.returns-clause-internal
unfolding program_said tree_said
returns-clause-internal c = refl

pub returns-clause-test : goal.returns-clause-test
unfolding program_said tree_said
returns-clause-test c = refl
