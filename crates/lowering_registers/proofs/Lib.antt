pub mod Marked
pub mod RegisterLocals
mod Chosen
mod Rows
