pub mod Fixed
pub mod Entries
pub mod Caches
pub mod Laws
