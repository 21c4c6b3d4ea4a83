pub mod Identifiers
pub mod Slots
