pub mod Coded
pub mod Right
pub mod Rising
pub mod OneOutcome
