-- The lemmas of the crates below that files of this crate cite.
pub use Rattle.template_code.proofs.Lengths.{sizes_small, fetch_length, PassesFew}
pub use Rattle.template_code.proofs.Sizes.{sizes_spelled, template_sizes, short, sizes_append, passing_call_size, jump_size, jump_if_zero_size, call_code_size}
