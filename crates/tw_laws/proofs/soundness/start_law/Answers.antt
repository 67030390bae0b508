use Rattle.tw_laws.proofs.Acting.{start_law}
use Rattle.tw_laws.proofs.soundness.start_law.Goals as goal

pub returns : goal.returns
returns g c = start_law
