pub mod Signed
pub mod Numbers
pub mod Differences
pub mod Storing
pub mod Handlers
