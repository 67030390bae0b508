-- The proofs, in the order of the argument.

-- the world as an executive holds it, and what each action makes of it
pub mod Worlds
pub mod Acts
-- so every action keeps what an executive is
pub mod Kept
-- and which refusals come exactly
pub mod Exactly
pub mod Deliveries
pub mod Commits
pub mod Marks
pub mod Rewinds
pub mod Replays
pub mod Installs
-- the start
pub mod Starts
-- what a post moves
pub mod Comparing
pub mod LeastLines
-- what the theory refuses an action for
pub mod Reasons
-- an executive may go to another thread
pub mod Sent
