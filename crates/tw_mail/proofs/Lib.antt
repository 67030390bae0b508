pub mod Boxes
pub mod Changes
pub mod Fronts
pub mod Leasts
