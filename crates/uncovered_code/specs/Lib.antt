pub mod References
pub mod Routines
pub mod Laws
pub mod Worked
