-- What the instructions of an operation do, from the one on that can fault.
use Rattle.std.specs.Prelude.{◌≡◌, ℕ, ◌^◌, ◌-◌, ◌<◌, Bool, true, nat_lt, if◌then◌else◌, List, [], ◌∷◌, Option, Err}
use Rattle.seh_num.specs.declared.width.Width.{Width}
use Rattle.seh_num.specs.declared.event.Code.{Code}
use Rattle.seh_num.specs.Widths.{limit, half, low}
use Rattle.flat_memory.specs.Memory.{Memory}
use Rattle.x64_instr.specs.declared.instruction.Instr.{Instr}
use Rattle.x64_machine.specs.declared.cpu.Flags.{Flags}
use Rattle.x64_machine.specs.declared.outcome.Stop.TheVariants as stops
use Rattle.x64_machine.specs.Effect.{effect}
use Rattle.c_operations.specs.declared.operation.Signedness.{Signedness}
use Rattle.c_operations.specs.declared.operation.Signedness.TheVariants.{Unsigned, Signed}
use Rattle.c_operations.specs.declared.operation.Operation.{Operation}
use Rattle.c_operations.specs.declared.operation.Operation.TheVariants as operations
use Rattle.c_operations.specs.Numbers.{width}
use Rattle.c_operations.specs.Performed.{OperationResult, Gives, Raises, Undefined}
use Rattle.template_code.specs.Operands.{has_first, has_second}
use Rattle.x64_templates.specs.Straight.{MachineView, machine, Yields}
use Rattle.x64_templates.specs.Frames.{Agrees, IsBytes}

-- the half above the first operand in a division
abbrev pub high_of : Signedness → Width → ℕ → ℕ
high_of Unsigned w a = 0
high_of Signed w a = if nat_lt (low w a) (half w) then 0 else limit w - 1

abbrev pub IsReady : Operation → MachineView → Type 0
IsReady (operations.Divide s z) v = low (width z) v.rdx ≡ high_of s (width z) v.rax
IsReady (operations.Remainder s z) v = low (width z) v.rdx ≡ high_of s (width z) v.rax
IsReady o v = Unit {0}

-- the operands that the operation reads are in their registers, and all that it needs beside them
pub record HasOperands (o : Operation) (a b : ℕ) (v : MachineView) : Type 0 where
  pub first : has_first o ≡ true → v.rax ≡ a
  pub second : has_second o ≡ true → v.rcx ≡ b
  pub ready : IsReady o v

-- the first of the instructions faults, and so does nothing
abbrev pub HeadFaults : List Instr → MachineView → Code → Option (Bool × ℕ) → Type 0
HeadFaults [] v code access = ⊥
HeadFaults (i ∷ is) v code access =
    (rip : ℕ) (flags : Flags) → effect (machine v rip flags) i ≡ Err (stops.Fault code access)

-- the result is in RAX, and the memory agrees with the source's; no reserved byte has changed
pub record LeavesResult (reserved : ℕ → Bool) (code : List Instr) (v : MachineView) (x : ℕ)
    (source : Memory) : Type 0 where
  pub after : Memory
  pub yields : Yields code v x after
  pub small : x < 2 ^ 64
  pub agrees : Agrees reserved after source
  pub protection : after.protection ≡ v.memory.protection
  pub own : (a : ℕ) → reserved a ≡ true → after.byte a ≡ v.memory.byte a
  pub bytes : IsBytes v.memory → IsBytes after

abbrev pub Implements : (ℕ → Bool) → List Instr → MachineView → OperationResult → Type 0
Implements reserved code v (Gives x source) = LeavesResult reserved code v x source
Implements reserved code v (Raises c access) = HeadFaults code v c access
Implements reserved code v (Undefined a) = Unit {0}
