pub mod Wanting
pub mod OneMore
