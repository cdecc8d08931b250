pub mod Faults
pub mod Actions
