pub mod Rows
pub mod Kinds
pub mod Rule
pub mod Widths
pub mod PrintedLimits
pub mod RawLimits
