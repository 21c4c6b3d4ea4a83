pub mod Rows
pub mod Counts
pub mod Sum
