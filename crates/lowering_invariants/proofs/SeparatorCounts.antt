-- Separators at the begin of functions and blocks.
pub mod FirstSeparators
pub mod BlockSeparators
pub mod Separators
