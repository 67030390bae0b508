pub mod Histories
pub mod Readers
pub mod Made
pub mod Receipts
pub mod Room
pub mod Commits
pub mod Starts
pub mod Outcomes
pub mod Copies
pub mod Between
pub mod ChainSteps
pub mod Installs
pub mod Stepped
pub mod Installations
pub mod Finishing
-- a process may go to another thread
pub mod Sent
