-- The instructions that bring slots to registers and back, and the template of an operation.
--
-- The main definition: `compute_code`.
use Rattle.std.specs.Prelude.{ℕ, ◌+◌, ◌*◌, Bool, if◌then◌else◌, List, [], ◌∷◌, ◌++◌, Option, Some, None}
use Rattle.seh_num.specs.declared.width.Width.TheVariants.{W64}
use Rattle.x64_instr.specs.declared.register.Reg.{Reg}
use Rattle.x64_instr.specs.declared.register.Reg.TheVariants.{Rax, Rcx, Rsp}
use Rattle.x64_instr.specs.declared.operand.RegisterOrMemory.TheVariants as places
use Rattle.x64_instr.specs.declared.operand.Operand.TheVariants as operands
use Rattle.x64_instr.specs.declared.instruction.Instr.{Instr}
use Rattle.x64_instr.specs.declared.instruction.Instr.TheVariants as instrs
use Rattle.linear_code.specs.declared.slot.Slot.{Slot}
use Rattle.linear_code.specs.declared.slot.Slot.TheVariants.{Local, Temporary}
use Rattle.c_operations.specs.declared.operation.Operation.{Operation}
use Rattle.template_code.specs.declared.layout.Layout.{Layout}
use Rattle.template_code.specs.declared.layout.Place.{Place}
use Rattle.template_code.specs.declared.layout.Place.TheVariants.{InRegister, InFrame, Arriving}
use Rattle.template_code.specs.Places.{parameter_register, place_of}
use Rattle.template_code.specs.Operations.{above, move, before, work}
use Rattle.template_code.specs.Operands.{has_first, has_second}

-- a number of 64 bits to a register, and RAX to its place
abbrev pub fetched : Reg → Reg → ℕ → Instr
fetched to base d = instrs.Move W64 (places.Register to) (operands.Memory (above base d))

abbrev pub put_back : Reg → ℕ → Instr
put_back base d = instrs.Move W64 (places.Memory (above base d)) (operands.Register Rax)

abbrev pub temporary_at : Layout → ℕ → ℕ
temporary_at y i = y.temporaries + 8 * i

abbrev pub local_at : Layout → ℕ → ℕ
local_at y i = y.locals + 8 * i

-- a function's locals in the frame are above its RSP; those of a filter or a `__finally` block
-- above the base that it keeps
abbrev pub fetch_local : Option ℕ → Reg → ℕ → List Instr
fetch_local None to d = fetched to Rsp d ∷ []
fetch_local (Some b) to d = fetched to Rsp b ∷ fetched to to d ∷ []

abbrev pub keep_local : Option ℕ → ℕ → List Instr
keep_local None d = put_back Rsp d ∷ []
keep_local (Some b) d = fetched Rcx Rsp b ∷ put_back Rcx d ∷ []

-- a local by its place: between registers it is moved
abbrev pub fetch_placed : Layout → Reg → ℕ → Place → List Instr
fetch_placed y to i (InRegister r) = move W64 to r ∷ []
fetch_placed y to i InFrame = fetch_local y.base to (local_at y i)
fetch_placed y to i Arriving = move W64 to (parameter_register i) ∷ []

abbrev pub keep_placed : Layout → ℕ → Place → List Instr
keep_placed y i (InRegister r) = move W64 r Rax ∷ []
keep_placed y i InFrame = keep_local y.base (local_at y i)
keep_placed y i Arriving = move W64 (parameter_register i) Rax ∷ []

abbrev pub fetch : Layout → Reg → Slot → List Instr
fetch y to (Temporary i) = fetched to Rsp (temporary_at y i) ∷ []
fetch y to (Local i) = fetch_placed y to i (place_of y i)

abbrev pub keep : Layout → Slot → List Instr
keep y (Temporary i) = put_back Rsp (temporary_at y i) ∷ []
keep y (Local i) = keep_placed y i (place_of y i)

-- an operation: the operands that it reads to their registers, the operation, and the result to its
-- slot; up to the instruction that can fault, and from it on
abbrev pub fetch_if : Bool → Layout → Reg → Slot → List Instr
fetch_if read y to x = if read then fetch y to x else []

abbrev pub operands_code : Layout → Operation → Slot → Slot → List Instr
operands_code y o first second =
    fetch_if (has_first o) y Rax first ++ (fetch_if (has_second o) y Rcx second ++ before o)

abbrev pub finish_code : Layout → Operation → Slot → List Instr
finish_code y o to = work o ++ keep y to

-- the operands that the operation reads to RAX and RCX, its instructions, and RAX to the slot of
-- the result
abbrev pub compute_code : Layout → Slot → Operation → Slot → Slot → List Instr
compute_code y to o first second = operands_code y o first second ++ finish_code y o to
