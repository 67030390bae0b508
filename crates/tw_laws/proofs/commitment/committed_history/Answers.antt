use Rattle.tw_laws.proofs.History.Committed.{committed_history}
use Rattle.tw_laws.proofs.commitment.committed_history.Goals as goal

pub returns : goal.returns
returns g c = committed_history
