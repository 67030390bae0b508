use Rattle.tw_laws.proofs.OfRelay.{laws_of_relay}
use Rattle.tw_laws.proofs.applied.laws_of_relay.Goals as goal

pub returns : goal.returns
returns c = laws_of_relay
