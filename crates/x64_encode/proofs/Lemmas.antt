-- The lemmas of the crates below that files of this crate cite.
pub use Rattle.x64_instr.proofs.RegisterNumbers.{number_small, register_number}
