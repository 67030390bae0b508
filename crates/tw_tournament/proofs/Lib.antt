pub mod Gathered
pub mod Numbers
pub mod Times
pub mod Winning
