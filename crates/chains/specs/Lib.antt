pub mod Chain
pub mod Spread
pub mod ChainLists
pub mod Along
pub mod Tests
pub mod Tells
