pub mod Contents
pub mod Faults
pub mod FlatTrees
pub mod Counts
pub mod Refused
pub mod TreeFaults
pub mod RouteIndex
