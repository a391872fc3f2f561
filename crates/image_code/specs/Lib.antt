pub mod Code
pub mod Verdicts
pub mod Frames
