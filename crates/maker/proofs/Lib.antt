pub mod Field
pub mod Terms
pub mod Sums
pub mod Product
pub mod Powers
pub mod Found
