use Rattle.tw_laws.proofs.Driven.{driven_runs}
use Rattle.tw_laws.proofs.applied.driven_runs.Goals as goal

pub returns : goal.returns
returns c = driven_runs
