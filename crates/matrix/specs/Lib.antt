pub mod Matrix
pub mod Search
pub mod Steps
pub mod Words
