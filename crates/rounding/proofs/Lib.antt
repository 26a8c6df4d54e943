pub mod Signs
pub mod Sizes
pub mod Halves
pub mod Parts
pub mod Readings
