pub mod Meeting
pub mod Gathering
pub mod Starting
pub mod Masks
pub mod Numbering
pub mod Judging
pub mod Unsound
pub mod OneOutcome
