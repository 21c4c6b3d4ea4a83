pub mod Routes
pub mod Answers
pub mod Once
pub mod OneOutcome
pub mod StandIns
