pub mod Labelling
pub mod Placing
pub mod Programs
pub mod Squeezing
pub mod Standings
pub mod Telling
