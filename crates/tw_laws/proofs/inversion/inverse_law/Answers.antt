use Rattle.tw_laws.proofs.Rewinding.{inverse_law}
use Rattle.tw_laws.proofs.inversion.inverse_law.Goals as goal

pub returns : goal.returns
returns g c = inverse_law
