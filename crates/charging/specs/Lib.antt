pub mod Observed
pub mod Conditions
pub mod States
pub mod Rules
pub mod Refusals
pub mod Met
