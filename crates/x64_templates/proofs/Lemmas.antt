-- The lemmas of the crates below that files of this crate cite.
pub use Rattle.flat_memory.proofs.Stores.{untouched, stored_is_loaded, writable_is_readable}
pub use Rattle.c_operations.proofs.SmallResults.{of_size, result_small}
pub use Rattle.x64_encode.proofs.Lengths.{longest}
pub use Rattle.x64_machine.proofs.Numbers.{low_below, signed_twice, low_is, twice, signed_low, signed_high, wrapped_below}
pub use Rattle.template_code.proofs.Lengths.{fetch_length, compute_length}
pub use Rattle.template_code.proofs.Sizes.{arrives, short, call_size, sizes_append, sizes_spelled, jump_if_zero_size, template_sizes, offset_next, jump_if_size, body_sizes}
