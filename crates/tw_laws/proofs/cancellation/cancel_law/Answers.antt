use Rattle.tw_laws.proofs.Cancelling.{cancel_stays}
use Rattle.tw_laws.proofs.cancellation.cancel_law.Goals as goal

pub returns : goal.returns
returns g c = cancel_stays
