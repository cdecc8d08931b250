pub mod Packs
pub mod Bytes
pub mod Columns
pub mod Units
