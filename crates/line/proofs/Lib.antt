pub mod ReadBack
pub mod Canonical
pub mod Examples
pub mod Starts
pub mod ByKind
pub mod Rooms
pub mod Firsts
pub mod OneOutcome
