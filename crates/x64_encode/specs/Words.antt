-- The words of this crate's proofs: what its lemma files import, by the crates below.
pub use Rattle.seh_num.specs.Widths.{bytes_of, limit, low, half}
pub use Rattle.seh_num.specs.declared.width.Width.{Width}
pub use Rattle.seh_num.specs.declared.width.Width.TheVariants.{W8, W16, W32, W64}
pub use Rattle.x64_instr.specs.Operands.{immediate_of, register_of_low_bits, width_of, sized, register_of_reg_field, modrm_with_register, is_listed, rm_and_register, rm_and_opcode_extension, source, scale, index_of_sib, memory, displaced, sib_operand, memory_operand, sized_narrow}
unfoldable pub use Rattle.x64_instr.specs.Operands.{place}
pub use Rattle.x64_instr.specs.Reading.{Read, ◌>>=◌, number, signed, byte, bit, extended}
pub use Rattle.x64_instr.specs.Spelling.{rm_extension, given, operation, group_1, group_11, move_immediate, rm_r, r_rm, group_3, load, direction, group_2_immediate, group_2_cl, group_5, extend, address_to, IsEncoding, leading}
unfoldable pub use Rattle.x64_instr.specs.Spelling.{row, after_prefixes, instr, plain_row, two_byte_row, after_size}
pub use Rattle.x64_instr.specs.declared.instruction.Condition.{Condition}
pub use Rattle.x64_instr.specs.declared.instruction.Count.{Count}
pub use Rattle.x64_instr.specs.declared.instruction.Instr.{Instr}
pub use Rattle.x64_instr.specs.declared.instruction.Operation.{Operation}
pub use Rattle.x64_instr.specs.declared.instruction.Target.TheVariants.{Relative, Indirect}
pub use Rattle.x64_instr.specs.declared.operand.Base.{Base}
pub use Rattle.x64_instr.specs.declared.operand.Index.{Index}
pub use Rattle.x64_instr.specs.declared.operand.RegisterOrMemory.{RegisterOrMemory}
pub use Rattle.x64_instr.specs.declared.prefixes.Prefixes.{Prefixes}
pub use Rattle.x64_instr.specs.declared.register.Reg.{Reg}
pub use Rattle.x64_encode.specs.Chosen.{little, is_signed, wide, place_bytes, modrm_bits, sized_opcode, opcode_extension, immediate_bytes, arithmetic_bytes, move_bytes, is_place, is_immediate, has_rex, prefixes, opcode_bytes, mode, displacement, sib, at_register, memory_bytes, unary_opcode_extension, division_opcode_extension, direction_opcode_extension, condition_number, extend_opcode, extend_width, count_bytes, plain_bytes, encoded_len, high_bits, base_number, index_number, scale_number, is_index, chosen, is_wide, is_widened, is_count, is_encodable, IsEncodable}
unfoldable pub use Rattle.x64_encode.specs.Chosen.{modrm, opcode_register}
