pub mod Lanes
pub mod Slots
