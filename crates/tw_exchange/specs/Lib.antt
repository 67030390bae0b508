pub mod Refusals
pub mod Agenda
pub mod Exchanged
pub mod Sweeping
pub mod Queues
pub mod States
pub mod Ends
pub mod Further
