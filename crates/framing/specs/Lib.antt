pub mod Messages
pub mod Reading
pub mod Lending
pub mod Packing
pub mod Putting
pub mod Packed
pub mod Demand
