pub mod Atomic
pub mod Counter
pub mod Waiting
