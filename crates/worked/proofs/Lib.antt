pub mod All
pub mod StandIns
