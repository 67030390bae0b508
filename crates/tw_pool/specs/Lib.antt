pub mod Lists
pub mod Links
pub mod Refused
pub mod Inserted
