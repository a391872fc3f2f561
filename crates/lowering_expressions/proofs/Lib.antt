pub mod Codes
pub mod Arms
