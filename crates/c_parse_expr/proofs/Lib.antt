mod Lemmas
pub mod Climbing
pub mod Operations
pub mod Operands
pub mod Listing
pub mod Front
pub mod Placing
pub mod Wrapping
pub mod Beginning
pub mod Arguing
pub mod Departing
pub mod Trees
pub mod OperandDerivations
