-- The lemmas of the crates below that files of this crate cite.
pub use Rattle.flat_memory.proofs.Stores.{among, beyond, outside, with_number-more, with_number-zero}
