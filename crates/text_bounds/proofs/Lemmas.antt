-- The lemmas of the crates below that files of this crate cite.
pub use Rattle.c_resolved.proofs.SoundPrograms.{accepted_is_sound}
