pub mod Items
pub mod Refusals
pub mod Texts
pub mod Traces
