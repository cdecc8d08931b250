pub mod Arith
pub mod Gf
pub mod Bit
