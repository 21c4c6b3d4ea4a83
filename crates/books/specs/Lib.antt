pub mod Book
pub mod Fixed
pub mod Lines
pub mod Belonging
pub mod Due
pub mod Built
pub mod Good
pub mod Words
