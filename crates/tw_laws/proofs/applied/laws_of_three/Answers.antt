use Rattle.tw_laws.proofs.Three.{laws_of_three}
use Rattle.tw_laws.proofs.applied.laws_of_three.Goals as goal

pub returns : goal.returns
returns c = laws_of_three
