pub mod Scope
pub mod Expressions
pub mod Pieces
pub mod Appended
