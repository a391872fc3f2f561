mod Lemmas
pub mod Fitting
pub mod Entries
pub mod Front
pub mod Infos
pub mod Blocks
pub mod Nearness
pub mod SavedLocals
pub mod Places
pub mod Bounds
pub mod Images
pub mod Imports
