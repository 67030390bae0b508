pub mod Showing
pub mod Driven
pub mod Checked
pub mod Viewed
pub mod Drawn
pub mod Passing
pub mod NoNetwork
