pub mod Mixed
pub mod Curves
