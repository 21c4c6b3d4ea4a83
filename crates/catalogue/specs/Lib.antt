pub mod Find
pub mod Places
pub mod Signals
pub mod Shapes
pub mod Class
pub mod Belongs
pub mod Cut
