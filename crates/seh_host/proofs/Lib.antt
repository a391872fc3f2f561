mod Lemmas
pub mod AsLoaded
pub mod Mapped
pub mod Runs
pub mod Slots
pub mod Loaded
pub mod Writing
pub mod Counts
