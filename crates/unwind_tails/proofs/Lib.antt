pub mod Rests
pub mod LaterTails
pub mod Decoding
