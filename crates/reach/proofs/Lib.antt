pub mod Growing
pub mod Handed
pub mod Passing
pub mod Leading
pub mod OneOutcome
