-- The lemmas of the crates below that files of this crate cite.
pub use Rattle.flat_memory.proofs.Stores.{among, untouched, leaves_others, stored_is_loaded, writable_is_readable, keeps_modes}
