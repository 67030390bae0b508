pub mod Adders
pub mod Counts
pub mod Holders
pub mod Intakes
pub mod Lines
pub mod Makers
pub mod Replaced
pub mod Runs
