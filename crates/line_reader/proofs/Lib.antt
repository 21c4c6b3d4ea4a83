pub mod OneLine
pub mod OneOutcome
