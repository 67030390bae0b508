pub mod Adding
pub mod Missing
pub mod MissingOptions
pub mod Reading
pub mod Refusing
