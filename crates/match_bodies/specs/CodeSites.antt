-- Where the code of a program's parts begins, and what comes before a body.
use Rattle.std.specs.Prelude.{ℕ, ◌==◌, Bool, true, false, List, [], ◌∷◌, ◌++◌, slice_get, Option, Some, None}
use Rattle.seh_num.specs.declared.width.Width.TheVariants.{W32}
use Rattle.x64_instr.specs.declared.register.Reg.TheVariants.{Rax, Rcx}
use Rattle.x64_instr.specs.declared.instruction.Instr.{Instr}
use Rattle.c_operations.specs.declared.built_in.BuiltIn.{BuiltIn}
use Rattle.linear_code.specs.declared.slot.Slot.TheVariants.{Local}
use Rattle.linear_code.specs.declared.program.FuncletKind.{FuncletKind}
use Rattle.linear_code.specs.declared.program.FuncletKind.TheVariants.{Filter, Finally}
use Rattle.linear_code.specs.Program.{LinearProgram, LinearBody, LinearFunction, LinearFunclet}
use Rattle.linear_machine.specs.Frames.{BodyName, FunctionBody, FuncletBody}
use Rattle.template_code.specs.declared.layout.Layout.{Layout}
use Rattle.template_code.specs.Bytes.{sizes}
use Rattle.template_code.specs.Operations.{move}
use Rattle.template_code.specs.Slots.{keep}
use Rattle.template_code.specs.Frames.{plan_of_layout, probing}
use Rattle.template_code.specs.Calls as calls
use Rattle.template_code.specs.Calls.{keep_register, parameters_code}
use Rattle.template_code.specs.Template.{Links, code_from}
use Rattle.template_code.specs.ColdParts.{hot_code, cold_code}
use Rattle.frame_rules.specs.Bytes.{prologue_code}
use Rattle.frame_rules.specs.Plan.{FramePlan}
use Rattle.frame_rules.specs.Plan as rules
use Rattle.match_stack.specs.ImagePlan.{ImagePlan}

-- the first bytes of functions, where the cold parts of a body begin, the thunks of the built-in
-- functions and of `_local_unwind`, and `__chkstk`
pub record Sites : Type 0 where
  pub function : ℕ → ℕ
  pub cold : BodyName → ℕ
  pub thunk : BuiltIn → ℕ
  pub local_unwind : ℕ
  pub check_stack : ℕ

-- what the code of a body refers to
abbrev pub links_of : ImagePlan → Sites → BodyName → Links
links_of p q name =
    record {
      label = p.address name;
      function = q.function;
      known = q.thunk;
      funclet = p.funclet;
      local_unwind = q.local_unwind;
    }

-- the first byte of a body's function or funclet
abbrev pub begin_of : ImagePlan → Sites → BodyName → ℕ
begin_of p q (FunctionBody f) = q.function f
begin_of p q (FuncletBody k) = p.funclet k

-- ---- what comes before the first instruction

-- the code that makes a frame is the prologue of its plan; a leaf function has none
abbrev pub frame_code : FramePlan → Bool → List Instr
frame_code f true = []
frame_code f false = prologue_code f

-- the plan of a body's frame, with the call of `__chkstk`
abbrev pub body_plan : ImagePlan → Sites → BodyName → FramePlan
body_plan p q name =
    probing (plan_of_layout (p.layout name)) (begin_of p q name) q.check_stack

-- how many bytes that takes
abbrev pub making_size : ImagePlan → Sites → BodyName → ℕ
making_size p q name =
    sizes (frame_code (body_plan p q name) (p.leaf name))

-- what an epilogue has up to some of its pops
abbrev pub epilogue_through : FramePlan → List ℕ → List Instr
epilogue_through f popped =
    rules.loads_then f.saves (rules.opening_then f (f.size == 0) (rules.pops_then popped []))

-- where a funclet keeps the base, and where its parent does, if that is a funclet
abbrev pub base_in : Layout → ℕ
base_in y = elim y.base [ Some b ↦ b | None ↦ 0 ]

-- where a funclet's parent keeps its base, if that is a funclet
abbrev pub parent_base : ImagePlan → Option ℕ → Option ℕ
parent_base p None = None
parent_base p (Some parent) = (p.layout (FuncletBody parent)).base

-- the base in RDX, or where the frame in RDX is a funclet's, the base that is kept there
abbrev pub keep_base : Option ℕ → ℕ → List Instr
keep_base None b = calls.keep_base b
keep_base (Some parent) b = calls.keep_parents_base parent b

-- a filter keeps the address of its EXCEPTION_POINTERS, a `__finally` block its flag
abbrev pub keep_argument : Layout → FuncletKind → List Instr
keep_argument y Filter = keep_register Rcx y.pointers ∷ []
keep_argument y (Finally flag) = move W32 Rax Rcx ∷ keep y (Local flag)

-- a function stores its parameters
abbrev pub function_arguments : Layout → Option LinearFunction → List Instr
function_arguments y None = []
function_arguments y (Some f) = parameters_code y 0 f.parameters

-- a funclet keeps its base and its argument
abbrev pub funclet_arguments : ImagePlan → Layout → Option LinearFunclet → List Instr
funclet_arguments p y None = []
funclet_arguments p y (Some f) =
    keep_base (parent_base p f.parent) (base_in y) ++ keep_argument y f.kind

-- what a body stores as it begins
abbrev pub arguments_code : LinearProgram → ImagePlan → BodyName → List Instr
arguments_code program p (FunctionBody f) =
    function_arguments (p.layout (FunctionBody f)) (slice_get program.functions f)
arguments_code program p (FuncletBody k) =
    funclet_arguments p (p.layout (FuncletBody k)) (slice_get program.funclets k)

-- the code before a body's first instruction
abbrev pub entry_code : LinearProgram → ImagePlan → Sites → BodyName → List Instr
entry_code program p q name =
    frame_code (body_plan p q name) (p.leaf name)
    ++ arguments_code program p name

-- all of its code but that of its cold parts
abbrev pub code_of : LinearProgram → ImagePlan → Sites → BodyName → LinearBody → List Instr
code_of program p q name b =
    entry_code program p q name ++ code_from (links_of p q name) (p.layout name)
    (p.address name 0) (hot_code b)

-- and theirs
abbrev pub cold_code_of : ImagePlan → Sites → BodyName → LinearBody → List Instr
cold_code_of p q name b =
    code_from (links_of p q name) (p.layout name) (q.cold name) (cold_code b)
