pub mod Followed
pub mod ChargeNumbers
pub mod OneOutcome
