pub mod PageTrees
pub mod MapSpaces
pub mod Replays
