pub mod Faults
pub mod Store
pub mod Layout
