pub mod TypesAreRead
pub mod Types
pub mod Ends
