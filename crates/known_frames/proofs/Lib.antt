pub mod Entered
pub mod NamedWords
pub mod Kept
pub mod Runs
