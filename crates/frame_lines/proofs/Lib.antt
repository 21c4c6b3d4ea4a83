pub mod Digits
pub mod Gathered
pub mod Cuts
pub mod Bytes
pub mod Behind
pub mod OneOutcome
