-- The code by which functions become vectored handlers and are called as such.
--
-- `adding_stub`, `removing_stub`: what a program calls to make a function a vectored handler, or to
-- take it out. The address of its name thunk goes to RDX or RCX, and a jump leads to the service.
--
-- The main definition: `name_thunk`.
use Rattle.std.specs.Prelude.{ℕ, ◌+◌, List, [], ◌∷◌, None}
use Rattle.seh_num.specs.declared.width.Width.TheVariants.{W32, W64}
use Rattle.x64_instr.specs.declared.register.Reg.{Reg}
use Rattle.x64_instr.specs.declared.register.Reg.TheVariants.{Rax, Rcx, Rdx}
use Rattle.x64_instr.specs.declared.operand.Base.TheVariants as bases
use Rattle.x64_instr.specs.declared.operand.RegisterOrMemory.TheVariants as places
use Rattle.x64_instr.specs.declared.operand.Operand.TheVariants as operands
use Rattle.x64_instr.specs.declared.instruction.Instr.{Instr}
use Rattle.x64_instr.specs.declared.instruction.Instr.TheVariants as instrs
use Rattle.template_code.specs.Bytes.{thunk}
use Rattle.template_code.specs.Jumps.{distance, jump}
use Rattle.template_code.specs.Operations.{above}
use Rattle.template_code.specs.Slots.{fetched}

-- ---- name thunks

-- 32 bits so far above the address in RAX
abbrev pub loaded : Reg → ℕ → Instr
loaded to d = instrs.Move W32 (places.Register to) (operands.Memory (above Rax d))

-- called with the address of EXCEPTION_POINTERS, whose first word is the address of the
-- EXCEPTION_RECORD (winnt.h): its code and its flags are the arguments of the function
abbrev pub name_thunk : (at function : ℕ) → List Instr
name_thunk at function =
    fetched Rax Rcx 0 ∷ loaded Rcx 0 ∷ loaded Rdx 4 ∷ jump (at + 15) function ∷ []

-- ---- stubs

-- an address to a register
abbrev pub address_in : Reg → (next to : ℕ) → Instr
address_in r next to =
    instrs.LoadAddress W64 r (record {
      base = bases.Rip;
      index = None;
      displacement = distance next to;
    })

-- the address of a name thunk to a register, and a jump to the service whose slot is at an address
abbrev pub stub : Reg → (at name slot : ℕ) → List Instr
stub r at name slot = address_in r (at + 7) name ∷ thunk (distance (at + 13) slot) ∷ []

-- a function becomes a handler: its name thunk is the second argument
abbrev pub adding_stub : (at name slot : ℕ) → List Instr
adding_stub at name slot = stub Rdx at name slot

-- or is one no more: it is the only argument
abbrev pub removing_stub : (at name slot : ℕ) → List Instr
removing_stub at name slot = stub Rcx at name slot
