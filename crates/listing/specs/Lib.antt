pub mod Printout
pub mod Listing
pub mod AsRead
pub mod Working
pub mod Together
