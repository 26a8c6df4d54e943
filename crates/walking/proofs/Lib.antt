pub mod Counts
pub mod Walks
