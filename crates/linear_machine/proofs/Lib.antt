mod Lemmas
mod RunEvents
pub mod RunLengths
pub mod Stretch
pub mod StretchJoins
pub mod SingleTurns
pub mod Walks
pub mod Ranges
pub mod MoreTurns
pub mod WalkEvents
