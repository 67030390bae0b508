pub mod Refusals
pub mod Actions
pub mod Running
pub mod Rewinding
pub mod Chains
