use Rattle.tw_laws.proofs.Nodes.{memory_law}
use Rattle.tw_laws.proofs.memory.memory_law.Goals as goal

pub returns : goal.returns
returns g c = memory_law
