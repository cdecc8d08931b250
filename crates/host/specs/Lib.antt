pub mod Frames
pub mod Stages
pub mod Steps
pub mod Meaning
pub mod Begins
pub mod Faults
