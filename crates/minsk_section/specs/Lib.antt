pub mod Widths
pub mod Lines
pub mod Turning
pub mod Datum
pub mod Climbing
pub mod Figures
