-- Instructions one after another.
use Rattle.std.specs.Prelude.{◌≡◌, ℕ, ◌+◌, ◌^◌, ◌<◌, Bool, true, false, ◌&&◌, nat_eq, List, [], ◌∷◌, slice_index, Ok}
use Rattle.flat_memory.specs.Memory.{Memory}
use Rattle.x64_instr.specs.declared.register.Reg.{Reg}
use Rattle.x64_instr.specs.declared.operand.RegisterOrMemory.{RegisterOrMemory}
use Rattle.x64_instr.specs.declared.operand.RegisterOrMemory.TheVariants as places
use Rattle.x64_instr.specs.declared.operand.Operand.{Operand}
use Rattle.x64_instr.specs.declared.operand.Operand.TheVariants as operands
use Rattle.x64_instr.specs.declared.instruction.Operation.{Operation}
use Rattle.x64_instr.specs.declared.instruction.Operation.TheVariants as operations
use Rattle.x64_instr.specs.declared.instruction.Target.{Target}
use Rattle.x64_instr.specs.declared.instruction.Target.TheVariants.{Relative, Indirect}
use Rattle.x64_instr.specs.declared.instruction.Instr.{Instr}
use Rattle.x64_instr.specs.declared.instruction.Instr.TheVariants as instrs
use Rattle.x64_instr.specs.Registers.{number}
use Rattle.template_code.specs.Bytes.{size, sizes}
use Rattle.x64_machine.specs.declared.cpu.Flags.{Flags}
use Rattle.seh_num.specs.Answers.{◌>>=◌}
use Rattle.x64_machine.specs.Effect.{State, Answer, with_rip, effect}

-- an instruction after which the next one is run
abbrev pub is_straight : Instr → Bool
is_straight (instrs.JumpIf c d) = false
is_straight (instrs.Jump to) = false
is_straight (instrs.Call to) = false
is_straight instrs.Return = false
is_straight i = true

abbrev pub AllStraight : List Instr → Type 0
AllStraight [] = Unit {0}
AllStraight (i ∷ is) = (is_straight i ≡ true) × AllStraight is

-- what could be in an epilogue (Microsoft x64 ABI, "Prolog and epilog"): a change of RSP by
-- arithmetic or LEA, a POP, a return, a jump through memory or a register
abbrev pub is_rsp : Reg → Bool
is_rsp r = nat_eq (number r) 4

abbrev pub is_rsp_place : RegisterOrMemory → Bool
is_rsp_place (places.Register r) = is_rsp r
is_rsp_place (places.Memory m) = false

abbrev pub is_indirect : Target → Bool
is_indirect (Relative d) = false
is_indirect (Indirect at) = true

abbrev pub begins_epilogue : Instr → Bool
begins_epilogue (instrs.Arithmetic o w to from) = is_rsp_place to
begins_epilogue (instrs.LoadAddress w to m) = is_rsp to
begins_epilogue (instrs.Jump to) = is_indirect to
begins_epilogue (instrs.Pop r) = true
begins_epilogue instrs.Return = true
begins_epilogue i = false

-- RSP falls by a number: where a frame is made in one instruction
abbrev pub is_subtraction : Operation → Bool
is_subtraction operations.Sub = true
is_subtraction o = false

abbrev pub is_number : Operand → Bool
is_number (operands.Immediate n) = true
is_number from = false

abbrev pub takes_frame : Instr → Bool
takes_frame (instrs.Arithmetic o w to from) =
    is_subtraction o && (is_number from && is_rsp_place to)
takes_frame i = false

abbrev pub NoneTakesFrame : List Instr → Type 0
NoneTakesFrame [] = Unit {0}
NoneTakesFrame (i ∷ is) = (takes_frame i ≡ false) × NoneTakesFrame is

-- what instructions do, one after another
unfoldable pub effects : List Instr → State → Answer State
effects [] s = Ok s
effects (i ∷ is) s = effect (with_rip s (s.cpu.rip + size i)) i >>= effects is

-- numbers of 64 bits
abbrev pub AreSmall : List ℕ → Type 0
AreSmall [] = Unit {0}
AreSmall (v ∷ vs) = (v < 2 ^ 64) × AreSmall vs

-- the nonvolatile registers in which locals may stand
pub record LocalRegisters : Type 0 where
  pub rbx : ℕ
  pub rsi : ℕ
  pub rdi : ℕ
  pub r12 : ℕ
  pub r13 : ℕ
  pub r14 : ℕ
  pub r15 : ℕ

-- RSP, RBP, and the volatile registers that templates don't compute in
pub record OtherRegisters : Type 0 where
  pub rsp : ℕ
  pub rbp : ℕ
  pub r8 : ℕ
  pub r9 : ℕ
  pub r10 : ℕ
  pub r11 : ℕ

-- both by their numbers
abbrev pub local_registers : List ℕ → LocalRegisters
local_registers r =
    record {
      rbx = slice_index r 3;
      rsi = slice_index r 6;
      rdi = slice_index r 7;
      r12 = slice_index r 12;
      r13 = slice_index r 13;
      r14 = slice_index r 14;
      r15 = slice_index r 15;
    }

abbrev pub other_registers : List ℕ → OtherRegisters
other_registers r =
    record {
      rsp = slice_index r 4;
      rbp = slice_index r 5;
      r8 = slice_index r 8;
      r9 = slice_index r 9;
      r10 = slice_index r 10;
      r11 = slice_index r 11;
    }

-- what templates work on: RAX, RCX, RDX, the registers of locals, the rest of the registers, and
-- the memory; beside them the host's vectored handlers, which none of them changes
pub record MachineView : Type 0 where
  pub rax : ℕ
  pub rcx : ℕ
  pub rdx : ℕ
  pub locals : LocalRegisters
  pub rest : OtherRegisters
  pub memory : Memory
  pub vectored : List ℕ

-- all registers, by their numbers
abbrev pub registers_of : MachineView → List ℕ
registers_of v =
    v.rax ∷ v.rcx ∷ v.rdx ∷ v.locals.rbx ∷ v.rest.rsp ∷ v.rest.rbp ∷ v.locals.rsi ∷ v.locals.rdi
    ∷ v.rest.r8 ∷ v.rest.r9 ∷ v.rest.r10 ∷ v.rest.r11 ∷ v.locals.r12 ∷ v.locals.r13 ∷ v.locals.r14
    ∷ v.locals.r15 ∷ []

abbrev pub machine : MachineView → ℕ → Flags → State
machine v rip flags =
    record {
      cpu = record { registers = registers_of v; rip = rip; flags = flags };
      memory = v.memory;
      vectored = v.vectored;
    }

-- from any place, with any flags, the instructions lead from one view to another
abbrev pub Executes : List Instr → MachineView → MachineView → Type 0
Executes is v w =
    (rip : ℕ) (flags : Flags) → (after : Flags) × (effects is (machine v rip flags)
    ≡ Ok (machine w (rip + sizes is) after))

-- the instructions leave this number in RAX and this memory, and change no register but RAX, RCX
-- and RDX
pub record Yields (is : List Instr) (v : MachineView) (x : ℕ) (m : Memory) : Type 0 where
  pub rcx : ℕ
  pub rdx : ℕ
  pub does : Executes is v (record v { rax = x; rcx = rcx; rdx = rdx; memory = m })
