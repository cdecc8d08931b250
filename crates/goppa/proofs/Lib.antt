pub mod Founds
pub mod Marks
pub mod Repeats
pub mod Horner
pub mod Lawful
