pub mod Blocks
pub mod Columns
pub mod Found
pub mod Regular
pub mod Only
