pub mod Counts
pub mod Heights
