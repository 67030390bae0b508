pub mod Lists
pub mod Nodes
pub mod Falling
pub mod Finders
