pub mod Families
pub mod Registers
pub mod Reading
pub mod Operands
pub mod Spelling
pub mod Written
