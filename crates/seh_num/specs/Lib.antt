pub mod Answers
pub mod Widths
pub mod Division
pub mod Shown
