-- By computing what the texts say.
use Rattle.std.proofs.Common.{refl}
use Rattle.tw_machine_file.specs.Machine.{language}
use Rattle.tw_machine_file.specs.Said.{program_said, tree_said}
use Rattle.tw_machine_laws.proofs.texts_law.Goals as goal

pub returns-clause-generator : goal.returns-clause-generator
unfolding program_said tree_said language
returns-clause-generator c = λ g. refl

pub returns-clause-tally : goal.returns-clause-tally
unfolding program_said tree_said language
returns-clause-tally c = refl

pub returns-clause-relay : goal.returns-clause-relay
unfolding program_said tree_said language
returns-clause-relay c = λ r. refl

pub returns-clause-queue : goal.returns-clause-queue
unfolding program_said tree_said language
returns-clause-queue c = λ q. refl
