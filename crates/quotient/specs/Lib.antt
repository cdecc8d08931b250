pub mod Quotient
pub mod Roots
