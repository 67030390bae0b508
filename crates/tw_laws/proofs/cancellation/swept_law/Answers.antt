use Rattle.tw_laws.proofs.Cancelling.{swept_least}
use Rattle.tw_laws.proofs.cancellation.swept_law.Goals as goal

pub returns : goal.returns
returns g c = swept_least
