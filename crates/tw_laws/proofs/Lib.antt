-- The proofs, in the order of the argument.

-- one component by itself: what its steps send and record, how its run goes on and divides
pub mod Sends
pub mod Recorded
pub mod Runs
-- the start, and each action, keep an executive sound
pub mod Cancelling
pub mod Starting
pub mod Changing
pub mod Stepping
pub mod Cutting
pub mod Delivering
pub mod ActionsKeep
pub mod Acting
-- local runs that balance are the sequential run; so a harvest keeps an executive sound too
pub mod History
pub mod AtGvt
pub mod Harvesting
pub mod Lines
pub mod Growing
pub mod Least
-- taking back
pub mod Ordered
pub mod Inverse
pub mod Rewinding
pub mod TransitWeights
pub mod Transit
pub mod Rewound
pub mod Parting
pub mod Committing
pub mod Keeping
-- the end of a sweep, of a run, and the one trace
pub mod Sweeping
pub mod SweepEnds
pub mod Passes
pub mod Swept
pub mod Drawn
pub mod Ending
pub mod Traces
pub mod Merging
pub mod Outcomes
-- memory, and the board
pub mod Nodes
pub mod Replayed
-- chains, and when a step can be made
pub mod Ready
pub mod Running
pub mod Agreeing
pub mod Installed
-- the order of couplings
pub mod Alike
-- the theorem of the whole, and all laws on concrete networks
pub mod TimeWarp
pub mod Three
pub mod Driven
pub mod OfRelay
