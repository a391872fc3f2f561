pub mod Made
pub mod Kinds
pub mod Words
