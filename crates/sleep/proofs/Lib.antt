pub mod OneOutcome
pub mod Refusals
pub mod History
pub mod Worked
