pub mod Frame
pub mod Word
pub mod Checksum
