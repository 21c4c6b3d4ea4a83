pub mod Cuts
pub mod Steps
pub mod Readings
pub mod Packs
pub mod OneOutcome
