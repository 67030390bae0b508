use Rattle.tw_laws.proofs.Agreeing.{chain_law}
use Rattle.tw_laws.proofs.chains.chain_law.Goals as goal

pub returns : goal.returns
returns g c = chain_law
