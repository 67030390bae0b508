-- By computing what the values say.
use Rattle.std.proofs.Common.{refl}
use Rattle.tw_machine_file.specs.Machine.{language}
use Rattle.tw_machine_file.specs.Said.{program_said, tree_said}
use Rattle.tw_machine_file.proofs.examples.limits.Goals as goal

pub returns : goal.returns
unfolding program_said tree_said language
returns c = record { unused = refl; used = refl; used_within = refl; no_turn = refl; one_turn = refl }
