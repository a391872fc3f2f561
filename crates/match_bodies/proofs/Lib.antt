mod Lemmas
pub mod Walks
pub mod Steps
pub mod Prologues
pub mod Places
pub mod Templates
pub mod Keeping
