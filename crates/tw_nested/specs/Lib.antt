pub mod Reach
pub mod Flat
pub mod Tree
pub mod Taken
pub mod Paths
pub mod Edges
pub mod Whole
