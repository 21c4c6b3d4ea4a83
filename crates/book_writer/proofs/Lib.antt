pub mod Pairs
pub mod Messages
pub mod Shown
pub mod Whole
pub mod Decided
pub mod OneOutcome
