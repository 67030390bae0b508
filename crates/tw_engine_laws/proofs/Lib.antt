pub mod One
pub mod OneAction
pub mod OnePlay
pub mod OneReport
pub mod OneSummary
pub mod OneText
