pub mod SingleCall
pub mod DayLoop
pub mod DayParts
pub mod DayNumbers
pub mod DayReadings
