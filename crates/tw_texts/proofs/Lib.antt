pub mod Joining
pub mod Portions
