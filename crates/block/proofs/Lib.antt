pub mod Shares
pub mod Words
pub mod Actions
