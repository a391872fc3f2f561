pub mod Digits
pub mod Moves
pub mod Pieces
pub mod Rows
pub mod Writers
