pub mod Places
pub mod Starts
pub mod StartViews
pub mod Ports
pub mod Warnings
