-- Where the image of a linked program has the code of its bodies.
use Rattle.std.specs.Prelude.{ℕ, ◌+◌, Bool, true, false, ◌&&◌, ◌==◌, nat_lt, if◌then◌else◌, List, [], ◌∷◌, length, take, drop, slice_get, slice_index, Option, Some, None}
use Rattle.seh_num.specs.Widths.{low}
use Rattle.x64_instr.specs.declared.register.Reg.TheVariants.{Rax, Rcx}
use Rattle.x64_machine.specs.declared.cpu.Cpu.{Cpu}
use Rattle.x64_machine.specs.Effect.{register}
use Rattle.virtual_unwind.specs.CallerOf.{Functions}
use Rattle.host_model.specs.declared.funclet.Funclet.{Funclet}
use Rattle.host_model.specs.Funclets.{funclets}
use Rattle.host_model.specs.Machine.{functions_in}
use Rattle.pe_write.specs.Program.{image_of}
use Rattle.c_operations.specs.declared.operation.Operation.{Operation}
use Rattle.c_operations.specs.declared.operation.Operation.TheVariants as operations
use Rattle.c_operations.specs.declared.built_in.BuiltIn.TheVariants.{RaiseException}
use Rattle.c_operations.specs.Numbers.{width}
use Rattle.linear_code.specs.declared.slot.Slot.TheVariants.{Temporary}
use Rattle.linear_code.specs.declared.instruction.Instruction.{Instruction}
use Rattle.linear_code.specs.declared.instruction.Instruction.TheVariants as instructions
use Rattle.linear_code.specs.Program.{LinearProgram, LinearFunclet}
use Rattle.linear_machine.specs.Frames as linear
use Rattle.linear_machine.specs.Frames.{BodyName, FunctionBody, FuncletBody, body_of, Resumption, AfterCall, SameOperation}
use Rattle.linear_machine.specs.Run.{instruction_in}
use Rattle.frame_layout.specs.declared.frame.FrameLayout.{FrameLayout}
use Rattle.template_code.specs.declared.layout.Layout.{Layout}
use Rattle.template_code.specs.Bytes.{sizes}
use Rattle.template_code.specs.Places.{register_of}
use Rattle.template_code.specs.Operands.{has_first, has_second}
use Rattle.template_code.specs.Slots.{operands_code}
use Rattle.template_code.specs.Calls.{return_at}
use Rattle.template_code.specs.Template.{template_size}
use Rattle.x64_templates.specs.Straight.{MachineView}
use Rattle.x64_templates.specs.Implements.{high_of}
use Rattle.x64_emit.specs.Linking.{address_or, stub_of, thunk_of}
use Rattle.x64_emit.specs.declared.links.Thunks.{Thunks}
use Rattle.image_link.specs.declared.routine.Entry.TheVariants as entries
use Rattle.x64_emit.specs.declared.links.Stubs.{Stubs}
use Rattle.image_link.specs.declared.handlers.HandlerBlocks.{HandlerBlocks}
use Rattle.image_link.specs.Handlers.{step_of}
use Rattle.image_link.specs.Routines.{nothing}
use Rattle.image_link.specs.Text.{thunks_at}
use Rattle.image_link.specs.Linked.{linked}
use Rattle.image_link.specs.Services.{services_of}
use Rattle.image_tables.specs.RoutinePlaces.{Placed, site_of, placed, probe_begin, blocks_of}
use Rattle.image_tables.specs.Entries as tables
use Rattle.image_tables.specs.CodeInMemory.{image_base, template_at}
use Rattle.image_tables.specs.RegionRows.{funclet_begin}
use Rattle.match_stack.specs.ImagePlan.{ImagePlan}
use Rattle.match_bodies.specs.CodeSites.{Sites}
use Rattle.template_code.specs.declared.layout.TheConstants.{NO_REGISTERS}
use Rattle.match_bodies.specs.ProgramImages.{view_of}

-- ---- the function table, and the funclets that it names

-- the function table of a program's image
abbrev pub functions_of : LinearProgram → Functions
functions_of program = functions_in (image_of (linked program))

-- the funclets of a program's image
abbrev pub funclets_of : LinearProgram → List Funclet
funclets_of program = funclets (tables.entries program)

-- ---- the routine of a body

abbrev pub no_layout : Layout
no_layout =
    record {
      base = None;
      pointers = 0;
      locals = 0;
      temporaries = 0;
      slots = 0;
      frame = 0;
      registers = NO_REGISTERS;
      arrivals = 0;
      size = 0;
      pushes = 0;
      saves = 0;
      framed = false;
    }

abbrev pub nowhere : Placed
nowhere =
    record {
      routine = record {
        entry = entries.Function 0;
        frame = None;
        layout = no_layout;
        body = nothing;
      };
      begin = 0;
      info = 0;
      cold = 0;
      chained = 0;
    }

abbrev pub or_nowhere : Option Placed → Placed
or_nowhere (Some x) = x
or_nowhere None = nowhere

-- the functions come first
abbrev pub routine_if : LinearProgram → BodyName → Option Placed
routine_if program (FunctionBody f) = slice_get (take (length program.functions) (placed program)) f
routine_if program (FuncletBody k) = slice_get (drop (length program.functions) (placed program)) k

-- the routine of a body
abbrev pub routine_of : LinearProgram → BodyName → Placed
routine_of program name = or_nowhere (routine_if program name)

-- ---- the registers of locals

-- of a function's own locals; a funclet has those of its function
abbrev pub register_if : LinearProgram → Option LinearFunclet → ℕ → Option ℕ
register_if program None local = None
register_if program (Some f) local =
    register_of (routine_of program (FunctionBody f.function)).routine.layout local

abbrev pub register_by : LinearProgram → BodyName → ℕ → Option ℕ
register_by program (FunctionBody f) local =
    register_of (routine_of program (FunctionBody f)).routine.layout local
register_by program (FuncletBody k) local =
    register_if program (slice_get program.funclets k) local

-- ---- frames

-- a routine without a frame is a leaf function
abbrev pub is_leaf : Option FrameLayout → Bool
is_leaf (Some f) = false
is_leaf None = true

abbrev pub no_frame : FrameLayout
no_frame =
    record {
      kept = 0;
      temporaries = 0;
      locals = 0;
      slots = 0;
      saves = 0;
      pushes = 0;
      framed = false;
      size = 0;
      depth = 0;
    }

abbrev pub or_none : Option FrameLayout → FrameLayout
or_none (Some f) = f
or_none None = no_frame

-- ---- where a body that was stopped by an exception continues

abbrev pub is_some : Option ℕ → ℕ → Bool
is_some None v = false
is_some (Some w) v = w == v

-- a dividend's upper half is its sign
abbrev pub is_ready : Operation → MachineView → Bool
is_ready (operations.Divide s z) v = low (width z) v.rdx == high_of s (width z) v.rax
is_ready (operations.Remainder s z) v = low (width z) v.rdx == high_of s (width z) v.rax
is_ready o v = true

-- after a call of RaiseException, by the address of the call's code
abbrev pub returns_there : Layout → ℕ → Cpu → Option Instruction → Bool
returns_there y at saved (Some (instructions.CallBuiltIn RaiseException first)) =
    (saved.rip == return_at y first (at + 5)) && (register saved Rax == 0)
returns_there y at saved i = false

-- the number of an operand that is read
abbrev pub is_some_if : Bool → Option ℕ → ℕ → Bool
is_some_if read o v = if read then is_some o v else true

-- at the machine instruction that faulted, with the operands that it reads in their registers
abbrev pub works_again : Layout → ℕ → List ℕ → Cpu → Option Instruction → Bool
works_again y at temporaries saved
    (Some (instructions.Compute to o (Temporary first) (Temporary second))) =
    (saved.rip == at + sizes (operands_code y o (Temporary first) (Temporary second)))
    && (is_some_if (has_first o) (slice_get temporaries first) (register saved Rax)
    && (is_some_if (has_second o) (slice_get temporaries second) (register saved Rcx)
    && is_ready o (view_of saved)))
works_again y at temporaries saved i = false

-- with the locals that stand in registers, from the one of a number on
abbrev pub is_in_register : List ℕ → ℕ → Option ℕ → Bool
is_in_register registers v None = true
is_in_register registers v (Some r) = slice_index registers r == v

abbrev pub registers_hold : List ℕ → (ℕ → Option ℕ) → ℕ → List ℕ → Bool
registers_hold registers register i [] = true
registers_hold registers register i (v ∷ vs) =
    is_in_register registers v (register i) && registers_hold registers register (i + 1) vs

abbrev pub resumes_by : Layout → ℕ → List ℕ → Cpu → Option Instruction → Bool → Resumption → Bool
resumes_by y at temporaries saved i hold AfterCall = returns_there y at saved i
resumes_by y at temporaries saved i hold SameOperation =
    works_again y at temporaries saved i && hold

-- where the code of an instruction begins
abbrev pub address_of : LinearProgram → BodyName → ℕ → ℕ
address_of program name label = image_base + template_at (routine_of program name) label

-- and where it ends; past the last instruction there is none
abbrev pub size_of : Layout → Option Instruction → ℕ
size_of y None = 0
size_of y (Some i) = template_size y i

abbrev pub end_of_label : LinearProgram → BodyName → ℕ → ℕ
end_of_label program name label =
    let r = (routine_of program name).routine in
    address_of program name label + size_of r.layout (slice_get r.body.code label)

abbrev pub resumes : LinearProgram → Resumption → linear.Frame → List ℕ → Cpu → Bool
resumes program resumption b values saved =
    resumes_by (routine_of program b.body).routine.layout
    (address_of program b.body b.next) b.temporaries saved
    (instruction_in (body_of program b.body) b.next)
    (registers_hold saved.registers (register_by program b.body) 0 values) resumption

-- ---- the plan

-- where the name thunks of functions are
abbrev pub names_of : HandlerBlocks → Stubs
names_of b = record { first = b.first; step = step_of b; count = b.count }

-- where the parts of a program's image are
abbrev pub plan_of : LinearProgram → ImagePlan
plan_of program = record {
  address = address_of program;
  after = end_of_label program;
  funclet = λ k. image_base + funclet_begin program k;
  handler = λ f. image_base + stub_of (names_of (blocks_of program)) f;
  leaf = λ name. is_leaf (routine_of program name).routine.frame;
  entry =
      λ name label. tables.entry_at (site_of program) (routine_of program name)
      (or_none (routine_of program name).routine.frame) label;
  layout = λ name. (routine_of program name).routine.layout;
  register = register_by program;
  lands = λ name label. nat_lt label (length (routine_of program name).routine.body.code);
  resumes = resumes program;
}

-- the thunks and stubs of its image
abbrev pub thunks_of : LinearProgram → Thunks
thunks_of program =
    let s = site_of program in thunks_at (services_of program) s.text s.blocks

-- where functions, cold parts, thunks or stubs, and `__chkstk` begin
abbrev pub sites_of : LinearProgram → Sites
sites_of program = record {
  function = λ f. image_base + address_or (site_of program).functions f 0;
  cold = λ name. image_base + (routine_of program name).cold;
  thunk = λ f. image_base + thunk_of (thunks_of program) f;
  local_unwind = image_base + (thunks_of program).local_unwind;
  check_stack = image_base + probe_begin program;
}
