use Rattle.std.proofs.Common.{refl}
use Rattle.tw_machine_warnings.proofs.examples.warnings.Goals as goal

pub returns-clause-six : goal.returns-clause-six
returns-clause-six c = refl

pub returns-clause-none : goal.returns-clause-none
returns-clause-none c = refl

pub returns-clause-line : goal.returns-clause-line
returns-clause-line c = refl
