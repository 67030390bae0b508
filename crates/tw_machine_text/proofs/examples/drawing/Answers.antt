use Rattle.std.proofs.Common.{refl}
use Rattle.tw_machine_text.proofs.examples.drawing.Goals as goal

pub returns-clause-behind : goal.returns-clause-behind
returns-clause-behind c = refl

pub returns-clause-test : goal.returns-clause-test
returns-clause-test c = refl

pub returns-clause-otherwise : goal.returns-clause-otherwise
returns-clause-otherwise c = refl

pub returns-clause-chain : goal.returns-clause-chain
returns-clause-chain c = refl

pub returns-clause-turns : goal.returns-clause-turns
returns-clause-turns c = refl

pub returns-clause-lengths : goal.returns-clause-lengths
returns-clause-lengths c = (refl, refl)

pub returns-clause-few : goal.returns-clause-few
returns-clause-few c = (refl, refl, refl, refl)
