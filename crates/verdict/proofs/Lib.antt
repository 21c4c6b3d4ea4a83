pub mod Once
pub mod Renaming
