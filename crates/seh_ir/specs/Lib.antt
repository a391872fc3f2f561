pub mod Slots
pub mod Statements
pub mod Measured
pub mod Regions
pub mod ColdParts
pub mod Funclets
pub mod Lowered
pub mod Words
