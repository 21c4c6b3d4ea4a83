pub mod Fields
pub mod Showing
pub mod IllFormed
pub mod Lengths
pub mod OneOutcome
