pub mod Refusals
pub mod Words
pub mod Scripts
pub mod OneScript
