pub mod Rules
pub mod Closed
