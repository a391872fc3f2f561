-- The lemmas of the crates below that files of this crate cite.
pub use Rattle.x64_instr.proofs.RegisterNumbers.{number_small, number_once, number_register}
pub use Rattle.x64_machine.proofs.Numbers.{low_below, signed_low, signed_high, limits, twice, signed_twice, wrapped_below, low_is}
