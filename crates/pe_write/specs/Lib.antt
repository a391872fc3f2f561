pub mod ImportTables
pub mod NameTable
pub mod Program
pub mod Written
