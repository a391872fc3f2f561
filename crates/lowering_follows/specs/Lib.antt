pub mod Fits
pub mod Weights
pub mod Places
pub mod StatementPlaces
pub mod FollowLaws
pub mod StepsPerTurn
pub mod LoweringLaws
pub mod Words
