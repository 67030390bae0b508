pub mod Cutting
pub mod Receiving
