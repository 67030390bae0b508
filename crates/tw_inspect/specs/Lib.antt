pub mod Reports
pub mod Replies
