pub mod Fewer
