mod Lemmas
pub mod Operands
pub mod OpcodesAgain
pub mod ArithmeticWritten
pub mod Written
pub mod Lengths
