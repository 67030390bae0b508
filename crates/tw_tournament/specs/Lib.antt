pub mod Times
pub mod Winners
