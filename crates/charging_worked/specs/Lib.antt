pub mod Widths
pub mod Charge
