pub mod Choices
pub mod Digits
pub mod Stores
pub mod Puts
pub mod Rests
pub mod DecimalLaws
pub mod ReadBack
