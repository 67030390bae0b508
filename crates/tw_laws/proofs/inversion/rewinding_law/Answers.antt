use Rattle.tw_laws.proofs.Committing.{rewind_answers}
use Rattle.tw_laws.proofs.Rewound.{rewinding_law}
use Rattle.tw_laws.proofs.inversion.rewinding_law.Goals as goal

pub returns-clause-cuts : goal.returns-clause-cuts
returns-clause-cuts g c = rewinding_law

pub returns-clause-answers : goal.returns-clause-answers
returns-clause-answers g c = rewind_answers
