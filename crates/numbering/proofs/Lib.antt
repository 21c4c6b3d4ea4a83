pub mod Empties
pub mod Firsts
pub mod Seeking
pub mod Laying
pub mod OneOutcome
