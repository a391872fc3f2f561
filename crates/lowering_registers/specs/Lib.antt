pub mod Naming
pub mod Shared
pub mod RegisterLaws
pub mod Marks
