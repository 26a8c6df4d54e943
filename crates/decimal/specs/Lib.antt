pub mod Decimal
pub mod Put
pub mod Places
