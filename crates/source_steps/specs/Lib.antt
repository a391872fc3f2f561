pub mod Locals
pub mod Activations
pub mod Functions
pub mod Machines
pub mod Finished
pub mod Directly
pub mod DataStack
