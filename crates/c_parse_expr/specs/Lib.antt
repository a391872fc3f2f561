pub mod Refusals
pub mod Operations
pub mod Steps
pub mod Readings
pub mod Refused
pub mod Words
