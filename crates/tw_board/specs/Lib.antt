-- What the contracts of the board cite.
pub mod Known
pub mod Rule
