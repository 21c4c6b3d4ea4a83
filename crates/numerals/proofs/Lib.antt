pub mod Reading
pub mod Digits
pub mod Identifiers
pub mod Decimals
pub mod OneOutcome
