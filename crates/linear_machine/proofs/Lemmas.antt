-- The lemmas of the crates below that files of this crate cite.
pub use Rattle.source_meaning.proofs.Prefixes.{prefix_same, prefix_self, prefix_then}
