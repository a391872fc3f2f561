pub mod Coded
pub mod Validated
