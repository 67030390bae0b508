use Rattle.tw_laws.proofs.Ready.{receive_law}
use Rattle.tw_laws.proofs.standing.receive_law.Goals as goal

pub returns : goal.returns
returns g c = receive_law
