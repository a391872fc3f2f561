-- The numbers of registers.
use Rattle.std.specs.Prelude.{ℕ, slice_index_or}
use Rattle.x64_instr.specs.declared.register.Reg.{Reg}
use Rattle.x64_instr.specs.declared.register.Reg.TheVariants.{Rax, Rcx, Rdx, Rbx, Rsp, Rbp, Rsi, Rdi, R8, R9, R10, R11, R12, R13, R14, R15}
use Rattle.x64_instr.specs.declared.register.TheConstants.{REGISTERS}

abbrev pub register : ℕ → Reg
register n = slice_index_or REGISTERS n Rax

abbrev pub number : Reg → ℕ
number Rax = 0
number Rcx = 1
number Rdx = 2
number Rbx = 3
number Rsp = 4
number Rbp = 5
number Rsi = 6
number Rdi = 7
number R8 = 8
number R9 = 9
number R10 = 10
number R11 = 11
number R12 = 12
number R13 = 13
number R14 = 14
number R15 = 15
