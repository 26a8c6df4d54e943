pub mod Day
pub mod Parts
pub mod Numbers
pub mod Readings
pub mod Reckoning
pub mod Told
