pub mod Buffers
pub mod RowTexts
pub mod SheetLaws
pub mod Sheets
pub mod RampPrints
