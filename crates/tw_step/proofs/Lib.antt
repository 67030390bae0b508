pub mod Links
pub mod Moves
-- a step may go to another thread
pub mod Sent
