use Rattle.tw_laws.proofs.Outcomes.{outcome_law}
use Rattle.tw_laws.proofs.endings.outcome_law.Goals as goal

pub returns : goal.returns
returns g c = outcome_law
