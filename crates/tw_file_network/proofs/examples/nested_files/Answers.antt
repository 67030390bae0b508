-- By computing what the values say.
use Rattle.std.proofs.Common.{refl}
use Rattle.tw_file_network.proofs.examples.nested_files.Goals as goal

pub returns-clause-nested : goal.returns-clause-nested
returns-clause-nested c = record { says = refl; models = refl; names = refl }

pub returns-clause-two_paths : goal.returns-clause-two_paths
returns-clause-two_paths c = record { says = refl }

pub returns-clause-no_such_part : goal.returns-clause-no_such_part
returns-clause-no_such_part c = record { says = refl }
