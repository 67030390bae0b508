pub mod Bags
pub mod SignedCounts
pub mod Equality
pub mod MessageLists
pub mod Messages
pub mod Orders
pub mod Sorting
pub mod Totals
