pub mod Kinds
pub mod Views
pub mod Placings
pub mod Functions
