pub mod Steps
pub mod Ring
pub mod Roots
pub mod Terms
