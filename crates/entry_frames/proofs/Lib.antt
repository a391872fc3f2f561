pub mod Frames
pub mod Verdicts
