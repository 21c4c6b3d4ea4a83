pub mod Reading
pub mod Written
pub mod Taken
