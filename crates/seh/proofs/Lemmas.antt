-- The lemmas of the crates below that files of this crate cite.
pub use Rattle.c_text.proofs.NotRefused.{accepted_is_not_refused, accepted_is_one}
