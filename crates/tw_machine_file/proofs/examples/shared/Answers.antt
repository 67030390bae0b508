-- By computing what the values say.
use Rattle.std.proofs.Common.{refl}
use Rattle.tw_machine_file.specs.Shared.{says_name}
use Rattle.tw_machine_file.proofs.examples.shared.Goals as goal

pub returns-clause-says : goal.returns-clause-says
returns-clause-says c = refl

pub returns-clause-part : goal.returns-clause-part
returns-clause-part c = refl

pub returns-clause-left : goal.returns-clause-left
unfolding says_name
returns-clause-left c = refl

pub returns-clause-hidden : goal.returns-clause-hidden
unfolding says_name
returns-clause-hidden c = refl

pub returns-clause-named : goal.returns-clause-named
returns-clause-named c = (refl, refl, refl)

pub returns-clause-refused : goal.returns-clause-refused
returns-clause-refused c = (refl, refl, refl, refl, refl, refl, refl, refl, refl)
