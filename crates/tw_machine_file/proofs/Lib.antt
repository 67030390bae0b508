pub mod Languages
pub mod Loops
pub mod OneMachineMore
pub mod Passed
pub mod Saying
