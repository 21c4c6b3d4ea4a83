pub mod Picked
pub mod Kept
