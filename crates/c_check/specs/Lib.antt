pub mod Declarations
pub mod Entry
pub mod Parameters
pub mod Functions
pub mod Programs
pub mod Refusals
pub mod Words
