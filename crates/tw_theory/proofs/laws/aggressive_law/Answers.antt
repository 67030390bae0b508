use Rattle.tw_theory.proofs.Cancelling.{aggressive_law}
use Rattle.tw_theory.proofs.laws.aggressive_law.Goals as goal

pub returns : goal.returns
returns g c = aggressive_law
