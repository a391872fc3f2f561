pub mod Ranges
pub mod Stacks
pub mod Laws
pub mod Worked
