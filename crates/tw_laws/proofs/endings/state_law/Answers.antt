use Rattle.tw_laws.proofs.Ending.{ending_law, state_law}
use Rattle.tw_laws.proofs.endings.state_law.Goals as goal

pub returns-clause-ending : goal.returns-clause-ending
returns-clause-ending g c = ending_law

pub returns-clause-state : goal.returns-clause-state
returns-clause-state g c = state_law
