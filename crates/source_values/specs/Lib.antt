pub mod Direct
pub mod Surrounding
pub mod Leading
