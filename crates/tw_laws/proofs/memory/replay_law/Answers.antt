use Rattle.tw_laws.proofs.Replayed.{replay_law}
use Rattle.tw_laws.proofs.memory.replay_law.Goals as goal

pub returns : goal.returns
returns g c = replay_law
