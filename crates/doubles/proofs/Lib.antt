pub mod Doubles
pub mod Values
pub mod OneOutcome
pub mod Spaced
pub mod Rising
pub mod Witnesses
