pub mod Imported
pub mod Ranges
pub mod Services
