mod Lemmas
pub mod Trees
pub mod Parts
pub mod Guarded
pub mod Going
