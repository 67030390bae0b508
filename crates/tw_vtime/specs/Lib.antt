pub mod Advance
pub mod Refusals
pub mod Stamps
