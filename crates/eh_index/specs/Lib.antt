pub mod Indexes
pub mod Ordered
pub mod Lone
pub mod Shifts
