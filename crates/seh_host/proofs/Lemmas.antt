-- The lemmas of the crates below that files of this crate cite.
pub use Rattle.seh_io.proofs.Writers.{wrote_nothing, ran_part, ran_whole, same_grew, same_part}
pub use Rattle.host_model.proofs.Imported.{IsStored, slots_stored}
