use Rattle.tw_laws.proofs.Harvesting.{committed_law}
use Rattle.tw_laws.proofs.commitment.committed_law.Goals as goal

pub returns : goal.returns
returns g c = committed_law
