pub mod Counting
pub mod Oldest
pub mod Sound
pub mod Taking
