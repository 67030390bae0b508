pub mod Assigned
pub mod Files
pub mod Members
pub mod Refused
pub mod Reseeded
pub mod Seeding
pub mod Set
pub mod Texts
