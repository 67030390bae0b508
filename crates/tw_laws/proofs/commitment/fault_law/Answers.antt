use Rattle.tw_laws.proofs.History.Committed.{fault_stamp}
use Rattle.tw_laws.proofs.History.Faults.{fault_law}
use Rattle.tw_laws.proofs.commitment.fault_law.Goals as goal

pub returns-clause-stamp : goal.returns-clause-stamp
returns-clause-stamp g c = fault_stamp

pub returns-clause-least : goal.returns-clause-least
returns-clause-least g c = fault_law
