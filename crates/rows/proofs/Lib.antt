pub mod Ruled
pub mod Whole
pub mod Limits
pub mod OneOutcome
