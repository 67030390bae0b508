pub mod Process
pub mod Refusals
pub mod History
pub mod Installing
