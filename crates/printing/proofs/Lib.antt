pub mod Puts
pub mod Counting
pub mod Signs
pub mod Spelling
pub mod ReadBack
pub mod OneOutcome
