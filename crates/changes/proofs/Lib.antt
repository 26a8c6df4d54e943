pub mod Between
pub mod Once
pub mod Stations
pub mod WholeStations
pub mod Compared
pub mod Insides
pub mod Changing
