pub mod Counts
pub mod Numbers
pub mod Moving
pub mod Next
pub mod Answers
pub mod Steps
pub mod Ready
pub mod OneOutcome
