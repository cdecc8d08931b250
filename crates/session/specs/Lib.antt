pub mod State
pub mod Faults
pub mod Table
pub mod Frames
pub mod Answers
pub mod Replies
