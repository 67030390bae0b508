use Rattle.tw_theory.proofs.Balancing.{balance_law}
use Rattle.tw_theory.proofs.laws.balance_law.Goals as goal

pub returns : goal.returns
returns g c = balance_law
