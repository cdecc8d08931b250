pub mod Products
pub mod Rows
pub mod Steps
pub mod Answering
