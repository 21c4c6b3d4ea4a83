pub mod Limits
pub mod Place
pub mod Columns
