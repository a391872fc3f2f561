pub mod Bytes
pub mod DataStack
pub mod FirstMemory
pub mod Loads
