pub mod Sought
pub mod Starts
pub mod Deeds
pub mod Texts
pub mod Warning
pub mod Names
pub mod Machines
pub mod Examples
