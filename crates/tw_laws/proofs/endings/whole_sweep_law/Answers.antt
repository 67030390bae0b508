use Rattle.tw_laws.proofs.Swept.{sweep_law, sweep_steps}
use Rattle.tw_laws.proofs.endings.whole_sweep_law.Goals as goal

pub returns-clause-whole : goal.returns-clause-whole
returns-clause-whole g c = sweep_law

pub returns-clause-steps : goal.returns-clause-steps
returns-clause-steps g c = sweep_steps
