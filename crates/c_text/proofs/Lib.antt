pub mod Refusing
pub mod NotRefused
