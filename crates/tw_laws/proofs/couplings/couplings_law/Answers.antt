use Rattle.tw_laws.proofs.Alike.{couplings_law}
use Rattle.tw_laws.proofs.couplings.couplings_law.Goals as goal

pub returns : goal.returns
returns g c = couplings_law
