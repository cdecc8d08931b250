pub mod Grid
pub mod Loops
pub mod Joins
pub mod Rows
