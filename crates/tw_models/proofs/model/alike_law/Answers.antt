use Rattle.tw_models.proofs.Alike.{take_back_alike}
use Rattle.tw_models.proofs.model.alike_law.Goals as goal

pub returns : goal.returns
returns c = λ m n same. record { means = same; takes_back = take_back_alike m n same }
