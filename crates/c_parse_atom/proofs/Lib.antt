pub mod Punctuators
pub mod Introduced
pub mod Fields
