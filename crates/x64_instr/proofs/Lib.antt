pub mod Numbers
pub mod Readers
pub mod Table
pub mod RegisterNumbers
