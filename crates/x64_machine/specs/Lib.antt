pub mod Contexts
pub mod Words
pub mod Shifts
pub mod Conditions
pub mod Dividing
pub mod Effect
