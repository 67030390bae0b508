pub mod Joining
pub mod Objects
pub mod Paired
pub mod Reaching
pub mod Starting
pub mod Telling
pub mod Thirds
pub mod Widths
