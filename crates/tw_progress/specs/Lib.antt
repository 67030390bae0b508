-- What the contracts of what is told cite.
pub mod Progress
