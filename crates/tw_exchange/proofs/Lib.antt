-- the times of an agenda follow its stamps
pub mod Indexing
-- lists that agree but at one place
pub mod SameBut
-- what is marked follows the executive
pub mod Looking
pub mod Marking
-- the least next step of all
pub mod LeastNext
-- posts that do nothing, and deliveries of nothing
pub mod Skipping
-- the agenda follows the executive
pub mod Following
-- the component that is given out
pub mod Drawing
-- what is left of a sweep, and what was done of it
pub mod UnderWay
-- which of them is never refused
pub mod Refusing
-- whether anything is left to post and deliver
pub mod IdleLemmas
-- a delivery more, a pass more
pub mod PassByPass
-- a step at gvt made and taken back
pub mod Trying
-- how a run stands, looked at component by component
pub mod Standing
-- an order that was given out
pub mod Due
-- what is done lets it come further
pub mod Coming
-- where a run has ended, its trace is the simulator's
pub mod Ended
-- steps commit nothing: a run that has ended stays so
pub mod Staying
-- what is posted stays behind what the executive has
pub mod Behind
-- what workers share may go from one of them to another
pub mod Sent
