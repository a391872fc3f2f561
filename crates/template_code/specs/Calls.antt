-- Calls (Microsoft x64 ABI, "Parameter passing" and "Prolog and epilog").
--
-- The main definitions: `passing_call_code`, `parameters_code`, `return_code`, `information_code`.
use Rattle.std.specs.Prelude.{ℕ, zero, suc, ◌+◌, ◌-◌, ◌*◌, nat_lt, if◌then◌else◌, List, [], ◌∷◌, ◌++◌, None}
use Rattle.seh_num.specs.declared.width.Width.TheVariants.{W32, W64}
use Rattle.x64_instr.specs.declared.register.Reg.{Reg}
use Rattle.x64_instr.specs.declared.register.Reg.TheVariants.{Rax, Rcx, Rdx, Rsp, R8, R9}
use Rattle.x64_instr.specs.declared.operand.Base.TheVariants as bases
use Rattle.x64_instr.specs.declared.operand.RegisterOrMemory.TheVariants as places
use Rattle.x64_instr.specs.declared.operand.Operand.TheVariants as operands
use Rattle.x64_instr.specs.declared.instruction.Instr.{Instr}
use Rattle.x64_instr.specs.declared.instruction.Instr.TheVariants as instrs
use Rattle.linear_code.specs.declared.slot.Slot.{Slot}
use Rattle.linear_code.specs.declared.slot.Slot.TheVariants.{Temporary}
use Rattle.c_operations.specs.declared.field.Field.{Field}
use Rattle.c_operations.specs.declared.field.Field.TheVariants.{ExceptionCode, ExceptionFlags, NumberParameters, ExceptionInformation}
use Rattle.frame_rules.specs.Plan.{epilogue}
use Rattle.template_code.specs.declared.layout.Layout.{Layout}
use Rattle.template_code.specs.declared.layout.Place.{Place}
use Rattle.template_code.specs.declared.layout.Place.TheVariants.{InRegister, InFrame, Arriving}
use Rattle.template_code.specs.Places.{place_of}
pub use Rattle.template_code.specs.Places.{parameter_register}
use Rattle.template_code.specs.Bytes.{sizes}
use Rattle.template_code.specs.Operations.{above, move}
use Rattle.template_code.specs.Slots.{fetched, temporary_at, local_at, fetch, keep}
use Rattle.template_code.specs.Jumps.{distance, call}
use Rattle.template_code.specs.Frames.{plan_of_layout}

-- a register to its place above RSP
abbrev pub keep_register : Reg → ℕ → Instr
keep_register r d = instrs.Move W64 (places.Memory (above Rsp d)) (operands.Register r)

-- ---- the caller

-- the four registers of arguments, from four temporaries
abbrev pub arguments_code : Layout → ℕ → List Instr
arguments_code y first =
    fetched Rcx Rsp (temporary_at y first)
    ∷ fetched Rdx Rsp (temporary_at y (first + 1))
    ∷ fetched R8 Rsp (temporary_at y (first + 2))
    ∷ fetched R9 Rsp (temporary_at y (first + 3))
    ∷ []

-- where the call returns to
abbrev pub return_at : Layout → ℕ → ℕ → ℕ
return_at y first at = at + sizes (arguments_code y first) + 5

abbrev pub begin_call : Layout → ℕ → ℕ → ℕ → List Instr
begin_call y first at to = arguments_code y first ++ (call (return_at y first at) to ∷ [])

abbrev pub call_code : Layout → Slot → ℕ → ℕ → ℕ → List Instr
call_code y result first at to = begin_call y first at to ++ keep y result

-- a built-in function: RAX is 0 before the call, which one without a result leaves so
abbrev pub clear_result : Instr
clear_result = instrs.Move W32 (places.Register Rax) (operands.Immediate 0)

abbrev pub call_built_in_code : Layout → ℕ → ℕ → ℕ → List Instr
call_built_in_code y first at to = clear_result ∷ call_code y (Temporary first) first (at + 5) to

-- n arguments past the fourth, from the one of a number on: from their temporaries to their places
-- above the home space
abbrev pub passing_code : Layout → ℕ → ℕ → ℕ → List Instr
passing_code y first i zero = []
passing_code y first i (suc n) =
    fetched Rax Rsp (temporary_at y (first + i)) ∷ keep_register Rax (8 * i)
    ∷ passing_code y first (i + 1) n

-- a call of so many arguments, whose result goes to the temporary of the first
abbrev pub passing_call_code : Layout → ℕ → ℕ → ℕ → ℕ → List Instr
passing_call_code y first count at to =
    let passing = passing_code y first 4 (count - 4) in passing
    ++ call_code y (Temporary first) first (at + sizes passing) to

-- a `__finally` block at the normal end of its body: ECX is 0, and RDX the base of the frame
abbrev pub finally_arguments : List Instr
finally_arguments =
    instrs.Move W32 (places.Register Rcx) (operands.Immediate 0) ∷ move W64 Rdx Rsp ∷ []

abbrev pub call_finally_code : ℕ → ℕ → List Instr
call_finally_code at to = finally_arguments ++ (call (at + sizes finally_arguments + 5) to ∷ [])

-- a local unwind: RCX is the base of the frame, and RDX the target, relative to the next
-- instruction
abbrev pub address_to : ℕ → ℕ → Instr
address_to next to =
    instrs.LoadAddress W64 Rdx (record {
      base = bases.Rip;
      index = None;
      displacement = distance next to;
    })

abbrev pub local_unwind_code : ℕ → ℕ → ℕ → List Instr
local_unwind_code at target to =
    move W64 Rcx Rsp ∷ address_to (at + 10) target ∷ call (at + 15) to ∷ []

-- ---- the callee

-- the result goes to RAX, and the epilogue of the frame leaves the body
abbrev pub return_code : Layout → Slot → List Instr
return_code y from = fetch y Rax from ++ epilogue (plan_of_layout y 0)

-- ---- what a filter reads

-- through its EXCEPTION_POINTERS the EXCEPTION_RECORD, and there the field

abbrev pub field_at : Field → ℕ
field_at ExceptionCode = 0
field_at ExceptionFlags = 4
field_at NumberParameters = 24
field_at (ExceptionInformation k) = 32 + 8 * k

abbrev pub field_load : Field → Instr
field_load (ExceptionInformation k) =
    instrs.Move W64 (places.Register Rax) (operands.Memory (above Rax (32 + 8 * k)))
field_load f = instrs.Move W32 (places.Register Rax) (operands.Memory (above Rax (field_at f)))

-- a field of the exception's record, through EXCEPTION_POINTERS
abbrev pub information_code : Layout → Slot → Field → List Instr
information_code y to f = fetched Rax Rsp y.pointers ∷ fetched Rax Rax 0 ∷ field_load f ∷ keep y to

-- ---- parameters

-- the first four come in registers, each further one above the return address and the home space,
-- and go to the locals of their numbers: to a register in one move; those of a leaf function stay

-- a parameter from the fifth on, at this distance from RSP in the body
abbrev pub stack_parameter : Layout → ℕ → ℕ
stack_parameter y i = y.frame + (8 + 8 * i)

abbrev pub parameter_placed : Layout → ℕ → Place → List Instr
parameter_placed y i (InRegister r) =
    if nat_lt i 4
    then move W64 r (parameter_register i) ∷ []
    else fetched r Rsp (stack_parameter y i) ∷ []
parameter_placed y i InFrame =
    if nat_lt i 4
    then keep_register (parameter_register i) (local_at y i) ∷ []
    else fetched Rax Rsp (stack_parameter y i) ∷ keep_register Rax (local_at y i) ∷ []
parameter_placed y i Arriving = []

abbrev pub parameter_code : Layout → ℕ → List Instr
parameter_code y i = parameter_placed y i (place_of y i)

-- so many parameters from one on
abbrev pub parameters_code : Layout → ℕ → ℕ → List Instr
parameters_code y i zero = []
parameters_code y i (suc n) = parameter_code y i ++ parameters_code y (i + 1) n

-- ---- a filter or a `__finally` block

-- RDX, the base, is kept, or where its parent keeps the base in a frame of its own, that base; a
-- filter keeps RCX too

abbrev pub keep_base : ℕ → List Instr
keep_base b = keep_register Rdx b ∷ []

abbrev pub keep_parents_base : ℕ → ℕ → List Instr
keep_parents_base parent b = fetched Rax Rdx parent ∷ keep_register Rax b ∷ []
