pub mod Streams
pub mod Lists
pub mod Memory
pub mod Contexts
pub mod Laws
pub mod Worked
