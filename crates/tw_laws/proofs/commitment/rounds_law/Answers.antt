use Rattle.tw_laws.proofs.Traces.{rounds_law}
use Rattle.tw_laws.proofs.commitment.rounds_law.Goals as goal

pub returns : goal.returns
returns g c = rounds_law
