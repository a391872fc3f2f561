pub mod Sizes
pub mod Frames
pub mod Places
pub mod Lengths
pub mod ColdParts
