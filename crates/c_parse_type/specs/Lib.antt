pub mod Fronts
pub mod Bases
