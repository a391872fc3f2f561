pub mod Reserved
pub mod Outcomes
pub mod Regions
