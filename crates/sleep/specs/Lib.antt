pub mod Watching
pub mod History
pub mod WorkedCalls
