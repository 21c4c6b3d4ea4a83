pub mod Steps
pub mod Going
pub mod Seeking
pub mod Named
pub mod Once
pub mod OneOutcome
