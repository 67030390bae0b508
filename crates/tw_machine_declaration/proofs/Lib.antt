pub mod Capped
pub mod Ticks
