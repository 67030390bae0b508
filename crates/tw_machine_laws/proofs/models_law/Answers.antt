use Rattle.tw_machine_laws.proofs.Adders.{tally_stands}
use Rattle.tw_machine_laws.proofs.Holders.{relay_stands}
use Rattle.tw_machine_laws.proofs.Lines.{queue_stands}
use Rattle.tw_machine_laws.proofs.Makers.{gen_stands}
use Rattle.tw_machine_laws.proofs.models_law.Goals as goal

pub returns-clause-generator : goal.returns-clause-generator
returns-clause-generator c = gen_stands

pub returns-clause-tally : goal.returns-clause-tally
returns-clause-tally c = tally_stands

pub returns-clause-relay : goal.returns-clause-relay
returns-clause-relay c = relay_stands

pub returns-clause-queue : goal.returns-clause-queue
returns-clause-queue c = queue_stands
