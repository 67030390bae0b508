use Rattle.tw_laws.proofs.Installed.{install_law}
use Rattle.tw_laws.proofs.chains.install_law.Goals as goal

pub returns : goal.returns
returns g c = install_law
