pub mod Steps
pub mod Cells
