pub mod Verdicts
pub mod Solving
