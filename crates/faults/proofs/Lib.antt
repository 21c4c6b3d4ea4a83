pub mod Loops
pub mod Parts
pub mod Widths
pub mod OneOutcome
pub mod Refusals
pub mod NoFaults
