pub mod Back
pub mod Below
pub mod Example
pub mod Front
pub mod NameTables
pub mod NamesRead
mod Octets
pub mod Pieces
pub mod Programs
pub mod Rows
pub mod Tables
