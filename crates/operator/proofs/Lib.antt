pub mod Made
pub mod Products
pub mod Chains
pub mod Chunks
