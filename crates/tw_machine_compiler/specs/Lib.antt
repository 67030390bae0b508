pub mod Expressions
pub mod Statements
pub mod Program
pub mod Rows
pub mod Limits
pub mod Examples
