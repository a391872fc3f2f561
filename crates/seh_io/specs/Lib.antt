pub mod Lengths
pub mod Names
pub mod Streams
pub mod Reading
pub mod Text
pub mod Writer
pub mod Successive
