pub mod Numbered
pub mod OneOutcome
