pub mod Protections
pub mod Memory
pub mod Laws
