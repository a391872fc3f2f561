use Rattle.x64_laws.proofs.ReadOnlySpellings.{arithmetic_reads_registers, mov_reads_registers, mov_reads_immediate, arithmetic_reads_immediate, jmp_reads_byte, jcc_reads_byte, rows_only_read}
use Rattle.x64_laws.proofs.spelling.only_read.Goals as goal

pub returns : goal.returns
returns c = record {
  arithmetic = arithmetic_reads_registers;
  mov = mov_reads_registers;
  mov_immediate = mov_reads_immediate;
  arithmetic_immediate = arithmetic_reads_immediate;
  jmp = jmp_reads_byte;
  jcc = jcc_reads_byte;
  rows = rows_only_read;
}
