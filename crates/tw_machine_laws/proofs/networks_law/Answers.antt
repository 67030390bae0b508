use Rattle.tw_machine_laws.proofs.Replaced.{networks}
use Rattle.tw_machine_laws.proofs.networks_law.Goals as goal

pub returns : goal.returns
returns c = networks
