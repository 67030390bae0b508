use Rattle.tw_theory.proofs.Cuts.{cut_law}
use Rattle.tw_theory.proofs.laws.cut_law.Goals as goal

pub returns : goal.returns
returns g c = cut_law
