pub mod Walked
pub mod Shadow
pub mod Shadowed
pub mod Comes
pub mod Ends
pub mod Matched
pub mod Laws
pub mod Words
