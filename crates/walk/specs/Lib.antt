pub mod Fresh
pub mod Answer
pub mod Stepping
pub mod Turns
pub mod Gains
pub mod Bounds
