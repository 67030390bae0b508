use Rattle.tw_laws.proofs.Least.{gvt_law}
use Rattle.tw_laws.proofs.commitment.gvt_law.Goals as goal

pub returns : goal.returns
returns g c = gvt_law
