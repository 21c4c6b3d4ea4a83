pub mod Lists
pub mod Pigeons
pub mod Overlaid
