-- The lemmas of the crates below that files of this crate cite.
pub use Rattle.x64_instr.proofs.RegisterNumbers.{number_small, number_register}
pub use Rattle.virtual_unwind.proofs.Registers.{get-context, get-set_same, get-set_other, get-rsp_same, get-rsp_other, length-set}
