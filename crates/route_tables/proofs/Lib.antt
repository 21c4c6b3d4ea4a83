pub mod Shown
pub mod Tested
pub mod Decided
pub mod FromTexts
pub mod OneText
pub mod OneOutcome
