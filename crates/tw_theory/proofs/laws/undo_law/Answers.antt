use Rattle.tw_theory.proofs.TakingBack.{undo_law}
use Rattle.tw_theory.proofs.laws.undo_law.Goals as goal

pub returns : goal.returns
returns g c = undo_law
