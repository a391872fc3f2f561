pub mod Answers
pub mod Validations
