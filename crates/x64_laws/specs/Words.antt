-- The words of this crate's proofs: what its lemma files import, by the crates below.
pub use Rattle.seh_num.specs.Division.{is_signed}
pub use Rattle.seh_num.specs.Widths.{limit, half, low, signed, wrapped, bytes_of}
pub use Rattle.seh_num.specs.declared.width.Width.{Width}
pub use Rattle.seh_num.specs.declared.width.Width.TheVariants.{W8, W16, W32, W64}
pub use Rattle.x64_instr.specs.Operands.{width_of, sized, sized_narrow, immediate_of, register_of_low_bits, rm_and_register, rm_and_opcode_extension, source, register_of_reg_field, scale, index_of_sib, memory, displaced, sib_operand, memory_operand, modrm_with_register, modrm_with_opcode_extension, is_listed}
unfoldable pub use Rattle.x64_instr.specs.Operands.{place}
pub use Rattle.x64_instr.specs.Reading.{Read, ◌>>=◌, byte, extended, bit}
pub use Rattle.x64_instr.specs.Registers.{number, register}
pub use Rattle.x64_instr.specs.Spelling.{given, operation, direction, condition, group_1, group_11, test_immediate, group_3, group_2_immediate, group_2_cl, group_5, move_immediate, sign_extend, extend, load, multiply_by, address_to, load_address, jump_if, set_if, jump, call, no_operation, arithmetic_form, arithmetic_row, extend_row, rm_r, r_rm, rm_extension}
unfoldable pub use Rattle.x64_instr.specs.Spelling.{plain_row, row, two_byte_row, after_prefixes, after_size, instr}
pub use Rattle.x64_instr.specs.declared.instruction.Direction.TheVariants.{ArithmeticRight}
pub use Rattle.x64_instr.specs.declared.instruction.Instr.{Instr}
pub use Rattle.x64_instr.specs.declared.operand.RegisterOrMemory.{RegisterOrMemory}
pub use Rattle.x64_instr.specs.declared.prefixes.Prefixes.{Prefixes}
pub use Rattle.x64_instr.specs.declared.register.Reg.{Reg}
pub use Rattle.x64_encode.specs.Chosen.{is_place, is_wide, is_immediate, is_index, is_encodable}
pub use Rattle.x64_machine.specs.Shifts.{differ, count_of, shifted, shift_flags}
pub use Rattle.x64_machine.specs.Words.{flags_of, merged}
unfoldable pub use Rattle.x64_machine.specs.Words.{subtracted, added, multiplied}
pub use Rattle.x64_laws.specs.Arithmetic.{IsOf, flags_for, product_flags, IsFloor, AddIsSum, SubIsDifference, ImulIsProduct, ImulByIsProduct, NegIsNegative, MovsxKeepsSigned, MovzxKeepsUnsigned, SarIsFloor}
pub use Rattle.x64_laws.specs.Comparing.{compares, CmpDecides}
pub use Rattle.x64_laws.specs.Spelled.{AreByteValues, SpelledIsEncodable, SpelledIsShort}
