pub mod Sums
pub mod Rows
pub mod Elim
pub mod Inverse
pub mod Checks
pub mod Searches
