-- The lemmas of the crates below that files of this crate cite.
pub use Rattle.c_expressions.proofs.Kept.{kept_more, kept_append}
