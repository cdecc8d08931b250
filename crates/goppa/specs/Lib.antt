pub mod Checks
pub mod Keys
pub mod Loading
