pub mod Walked
pub mod Placings
pub mod PlacedTrees
pub mod PlacedStatements
