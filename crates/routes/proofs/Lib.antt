pub mod Front
pub mod Gathering
pub mod Decided
pub mod Listed
pub mod OneOutcome
