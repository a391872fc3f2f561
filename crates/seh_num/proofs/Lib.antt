pub mod Quotients
pub mod Below
