pub mod Bits
pub mod Told
pub mod Made
pub mod OneOutcome
