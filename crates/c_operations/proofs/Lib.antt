pub mod SmallResults
