pub mod Statuses
pub mod Dumps
