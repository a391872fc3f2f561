mod Lemmas
pub mod Shadows
pub mod Turns
pub mod Matches
pub mod Taken
pub mod Steps
pub mod MatchedRuns
pub mod RunEnds
pub mod All
pub mod NoMore
pub mod Shadowed
pub mod Programs
