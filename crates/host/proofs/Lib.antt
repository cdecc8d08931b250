pub mod Tables
pub mod Solving
pub mod Knowing
