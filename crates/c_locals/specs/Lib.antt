pub mod Views
pub mod Values
pub mod WalkResults
pub mod Files
pub mod Words
