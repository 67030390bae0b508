pub mod Bags
pub mod Counting
pub mod Messages
pub mod Words
