-- The lemmas of the crates below that files of this crate cite.
pub use Rattle.flat_memory.proofs.Stores.{among, stored_is_loaded, untouched, writable_is_readable}
pub use Rattle.seh_records.proofs.Placed.{placed_is_fetched, placing_leaves_others}
pub use Rattle.seh_records.proofs.Runs.{none_front, none_within}
pub use Rattle.seh_records.proofs.Unmoved.{fetched_by_its_bytes}
pub use Rattle.frame_rules.proofs.Undoing.{undoing, stack_depth, word-is}
pub use Rattle.frame_rules.proofs.Words.{same_number}
