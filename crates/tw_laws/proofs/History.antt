-- The law of committed history, in the order of the argument.

-- both sides by a clock over stamps, and what stays of a run that goes on
pub mod Clock
pub mod Counts
pub mod GoingOn
-- a bag is fixed by its counts; what was sent of a stamp was consumed by whoever passed it
pub mod Bags
pub mod Consumed
-- local runs that balance agree with the network, stamp by stamp
pub mod Agreement
-- the steps of one component are its clock
pub mod LocalRuns
-- rounds are the network's clock
pub mod Components
pub mod RoundBags
pub mod RoundTurns
pub mod RecordOrder
pub mod Rounds
-- the law, and the fault at its end
pub mod Committed
pub mod Faults
