pub mod BodyState
pub mod Meaning
pub mod Program
