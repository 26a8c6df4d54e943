pub mod Counts
pub mod AxisSplit
pub mod OnAxis
pub mod Passed
