pub mod Cuts
pub mod Stamped
pub mod Named
pub mod Saying
pub mod Reading
pub mod OneScript
