use Rattle.tw_laws.proofs.Keeping.{keeping_law}
use Rattle.tw_laws.proofs.soundness.keeping_law.Goals as goal

pub returns : goal.returns
returns g c = keeping_law
