pub mod Buffer
pub mod Text
pub mod Sheet
pub mod RampSheet
