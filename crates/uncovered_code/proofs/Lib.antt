pub mod Routines
pub mod Instructions
pub mod Rows
pub mod Pieces
