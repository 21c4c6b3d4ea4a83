pub mod Lookups
pub mod Entries
pub mod OneFound
pub mod OneOutcome
