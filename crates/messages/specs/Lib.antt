pub mod Signals
pub mod Put
