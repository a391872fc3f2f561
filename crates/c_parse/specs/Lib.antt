pub mod Parts
pub mod Counts
pub mod Laws
pub mod Bounds
pub mod Refused
pub mod Words
