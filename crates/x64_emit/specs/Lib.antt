pub mod Appending
pub mod Near
pub mod Linking
pub mod Entries
pub mod Rooms
pub mod Bodies
pub mod StackWords
pub mod Words
