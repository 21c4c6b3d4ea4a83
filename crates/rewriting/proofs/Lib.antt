pub mod Growing
pub mod Parted
pub mod Orders
pub mod Back
