pub mod Instructions
pub mod Tails
pub mod TailEnds
