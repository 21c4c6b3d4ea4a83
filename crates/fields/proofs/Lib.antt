pub mod Run
pub mod Tabless
pub mod Eight
pub mod Written
pub mod OneOutcome
