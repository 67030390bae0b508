use Rattle.tw_laws.proofs.SweepEnds.{sweep_ends}
use Rattle.tw_laws.proofs.Sweeping.{work_falls}
use Rattle.tw_laws.proofs.endings.sweep_law.Goals as goal

pub returns-clause-falls : goal.returns-clause-falls
returns-clause-falls g c = work_falls

pub returns-clause-ends : goal.returns-clause-ends
returns-clause-ends g c = sweep_ends
