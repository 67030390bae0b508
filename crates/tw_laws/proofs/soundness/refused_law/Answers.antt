use Rattle.tw_laws.proofs.Growing.{refused_law}
use Rattle.tw_laws.proofs.soundness.refused_law.Goals as goal

pub returns : goal.returns
returns g c = refused_law
