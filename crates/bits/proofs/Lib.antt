pub mod Weights
pub mod Bytes
pub mod Placing
pub mod Summing
pub mod OneOutcome
