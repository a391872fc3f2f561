-- What a program has in its text, one after another: its functions, and then its funclets by their
-- numbers.
--
-- The main definitions: `routines`, `is_leaf`, `placed_locals`.
use Rattle.std.specs.Prelude.{ℕ, suc, ◌+◌, ◌-◌, ◌*◌, ◌<◌, Bool, true, false, not, ◌&&◌, ◌==◌, nat_le, List, [], ◌∷◌, ◌++◌, length, get_or, map, replicate, Option, Some, None}
use Rattle.linear_code.specs.declared.instruction.Instruction.{Instruction}
use Rattle.linear_code.specs.declared.instruction.Instruction.TheVariants as instructions
use Rattle.linear_code.specs.declared.slot.Slot.{Slot}
use Rattle.linear_code.specs.declared.slot.Slot.TheVariants.{Local, Temporary}
use Rattle.linear_code.specs.declared.program.FuncletKind.{FuncletKind}
use Rattle.linear_code.specs.declared.program.FuncletKind.TheVariants.{Filter, Finally}
use Rattle.linear_code.specs.Program.{LinearBody, LinearFunction, LinearFunclet, LinearProgram, weight}
use Rattle.frame_layout.specs.declared.frame.Facts.{Facts}
use Rattle.frame_layout.specs.declared.frame.FrameLayout.{FrameLayout}
use Rattle.frame_layout.specs.Layout.{frame_of}
use Rattle.template_code.specs.declared.layout.TheConstants.{MOST_REGISTERS, NO_REGISTERS}
use Rattle.template_code.specs.declared.layout.Layout.{Layout}
use Rattle.template_code.specs.Operands.{needs_rax_alone}
use Rattle.image_link.specs.declared.routine.Entry.{Entry}
use Rattle.image_link.specs.declared.routine.Entry.TheVariants as entries

-- a function or a funclet, with its frame, if it has one, and the places of its slots
pub record RoutineView : Type 0 where
  pub entry : Entry
  pub frame : Option FrameLayout
  pub layout : Layout
  pub body : LinearBody

-- ---- leaf functions

-- They call nothing, handle nothing, and of registers write RAX alone, since their operations need
-- no other and no result goes to a parameter. Their parameters stay in the registers
-- in which they arrive, and their other slots are in the home space.

-- a slot that is no parameter, of so many
abbrev pub is_kept : ℕ → Slot → Bool
is_kept n (Temporary i) = true
is_kept n (Local i) = nat_le n i

abbrev pub is_spare : ℕ → Instruction → Bool
is_spare n (instructions.Compute to o first second) = needs_rax_alone o && is_kept n to
is_spare n (instructions.Jump label) = true
is_spare n (instructions.JumpIfZero slot label) = true
is_spare n instructions.Separator = true
is_spare n (instructions.Return from) = true
is_spare n i = false

abbrev pub all_spare : ℕ → List Instruction → Bool
all_spare n [] = true
all_spare n (i ∷ is) = is_spare n i && all_spare n is

-- a function without calls and regions and with at most four slots, no operation of which reads a
-- second operand, and no result of which goes to a parameter. It has no frame and no entry, and its
-- parameters stay in the registers in which they arrive (Microsoft x64 ABI, "Parameter passing").
-- Its other slots are in the home space. `main` always has a frame.
abbrev pub is_leaf : LinearFunction → Bool
is_leaf f =
    nat_le f.parameters f.body.locals && (nat_le (f.body.locals + f.body.temporaries) 4
    && ((length f.body.regions == 0) && all_spare f.parameters f.body.code))

-- ---- functions

-- it writes a register for each local that stands in one
abbrev pub function_facts : LinearFunction → Facts
function_facts f =
    record {
      passed = f.body.passed;
      kept = 0;
      temporaries = f.body.temporaries;
      locals = f.body.locals;
      registers = length f.registers;
      frame_register = true;
      weight = weight f;
    }

abbrev pub function_frame : LinearFunction → FrameLayout
function_frame f = frame_of (function_facts f)

-- the locals that stand in registers, one for each of the first of RBX, RSI, RDI and R12 to R15, of
-- which the frame's plan pushes or stores as many (`function_facts`)
abbrev pub placed_locals : List ℕ → List (Option ℕ)
placed_locals locals = map Some locals ++ replicate (MOST_REGISTERS - length locals) None

-- the slots of a leaf are above its return address, but for its parameters
abbrev pub leaf_layout : LinearFunction → Layout
leaf_layout f =
    record {
      base = None;
      pointers = 0;
      locals = 8;
      temporaries = 8 + 8 * f.body.locals;
      slots = 0;
      frame = 0;
      registers = NO_REGISTERS;
      arrivals = f.parameters;
      size = 0;
      pushes = 0;
      saves = 0;
      framed = false;
    }

-- with the locals that stand in registers
abbrev pub function_layout : FrameLayout → List ℕ → Layout
function_layout f registers =
    record {
      base = None;
      pointers = 0;
      locals = f.locals;
      temporaries = f.temporaries;
      slots = f.slots;
      frame = f.depth;
      registers = placed_locals registers;
      arrivals = 0;
      size = f.size;
      pushes = f.pushes;
      saves = f.saves;
      framed = f.framed;
    }

abbrev pub leaf : LinearFunction → RoutineView
leaf f =
    record {
      entry = entries.Function f.parameters;
      frame = None;
      layout = leaf_layout f;
      body = f.body;
    }

abbrev pub framed : LinearFunction → RoutineView
framed f =
    let frame = function_frame f in record {
      entry = entries.Function f.parameters;
      frame = Some frame;
      layout = function_layout frame f.registers;
      body = f.body;
    }

abbrev pub leaf_if : Bool → LinearFunction → RoutineView
leaf_if true f = leaf f
leaf_if false f = framed f

-- `main` has a frame always; the first function has this index
abbrev pub functions_from : ℕ → ℕ → List LinearFunction → List RoutineView
functions_from main index [] = []
functions_from main index (f ∷ fs) =
    leaf_if (not (index == main) && is_leaf f) f ∷ functions_from main (suc index) fs

-- ---- funclets: they keep the base of their function's frame and the address of EXCEPTION_POINTERS

abbrev pub funclet_facts : LinearBody → Facts
funclet_facts b =
    record {
      passed = b.passed;
      kept = 2;
      temporaries = b.temporaries;
      locals = 0;
      registers = 0;
      frame_register = false;
      weight = 1;
    }

abbrev pub funclet_frame : LinearBody → FrameLayout
funclet_frame b = frame_of (funclet_facts b)

-- a body without any
abbrev pub nothing : LinearBody
nothing =
    record { locals = 0; temporaries = 0; passed = 0; code = []; regions = []; cold = [] }

-- a function without a name or a body
abbrev pub no_function : LinearFunction
no_function =
    record {
      name = [];
      parameters = 0;
      registers = [];
      surplus = 0;
      data_surplus = 0;
      body = nothing;
    }

abbrev pub function_of_index : LinearProgram → ℕ → LinearFunction
function_of_index p index = get_or p.functions index no_function

abbrev pub body_of_funclet : LinearProgram → ℕ → LinearBody
body_of_funclet p index =
    (get_or p.funclets index (record {
      kind = Filter;
      function = 0;
      parent = None;
      body = nothing;
    })).body

-- where the funclet's parent keeps the base, if that is a funclet too
abbrev pub kept_by : LinearProgram → Option ℕ → Option ℕ
kept_by p None = None
kept_by p (Some index) = Some (funclet_frame (body_of_funclet p index)).kept

abbrev pub HasParent : LinearProgram → Option ℕ → Type 0
HasParent p None = Unit {0}
HasParent p (Some index) = index < length p.funclets

abbrev pub entry_of : FuncletKind → Option ℕ → Entry
entry_of Filter parent = entries.Filter parent
entry_of (Finally flag) parent = entries.Finally parent flag

-- the locals are those of the function
abbrev pub funclet_layout : FrameLayout → FrameLayout → Layout
funclet_layout function own =
    record {
      base = Some own.kept;
      pointers = own.kept + 8;
      locals = function.locals;
      temporaries = own.temporaries;
      slots = own.slots;
      frame = own.depth;
      registers = NO_REGISTERS;
      arrivals = 0;
      size = own.size;
      pushes = own.pushes;
      saves = own.saves;
      framed = own.framed;
    }

abbrev pub funclet : LinearProgram → LinearFunclet → RoutineView
funclet p f =
    let own = funclet_frame f.body in
    record {
      entry = entry_of f.kind (kept_by p f.parent);
      frame = Some own;
      layout = funclet_layout (function_frame (function_of_index p f.function)) own;
      body = f.body;
    }

-- the functions and then the funclets by their numbers, each with its frame, the layout of its
-- slots and its body
abbrev pub routines : LinearProgram → List RoutineView
routines p = functions_from p.main 0 p.functions ++ map (funclet p) p.funclets
