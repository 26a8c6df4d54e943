pub mod Lines
pub mod Datum
pub mod Climbing
pub mod Turning
pub mod Figures
