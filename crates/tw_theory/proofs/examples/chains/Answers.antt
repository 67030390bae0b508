use Rattle.tw_theory.proofs.RelayChain.{chain_of_relay}
use Rattle.tw_theory.proofs.examples.chains.Goals as goal

pub returns : goal.returns
returns c = chain_of_relay
