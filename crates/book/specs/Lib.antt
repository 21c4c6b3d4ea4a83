pub mod Answered
pub mod Judging
