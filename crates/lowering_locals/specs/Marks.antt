-- Which locals have been set.
use Rattle.std.specs.Prelude.{ℕ, ◌-◌, Bool, true, false, nat_lt, List, [], ◌∷◌, ◌++◌, length, take, drop, replicate, slice_get, slice_set, Option, Some, None}
use Rattle.seh_num.specs.declared.event.Event.{Event}
use Rattle.seh_num.specs.declared.event.Event.TheVariants as events
use Rattle.flat_memory.specs.Memory.{Memory}
use Rattle.c_operations.specs.declared.operation.Operation.{Operation}
use Rattle.c_operations.specs.Performed.{OperationResult, Gives, performed}
use Rattle.source_meaning.specs.Source.{is_reserved}
use Rattle.linear_code.specs.declared.slot.Slot.{Slot}
use Rattle.linear_code.specs.declared.slot.Slot.TheVariants.{Local}
use Rattle.linear_code.specs.declared.instruction.Instruction.{Instruction}
use Rattle.linear_code.specs.declared.instruction.Instruction.TheVariants as instructions
use Rattle.linear_code.specs.Program.{LinearProgram, LinearFunction}
use Rattle.linear_machine.specs.Frames.{BodyName, FunctionBody, FuncletBody, Configuration}
use Rattle.linear_machine.specs.Unwinding.{flag_of, left_store}
use Rattle.linear_machine.specs.Instructions.{is_constant, operand}

-- for each live activation, outermost first, and each of its locals, whether it has been set
abbrev pub Marks : Type 0
Marks = List (List Bool)

-- those of an activation
abbrev pub marks_of : Marks → ℕ → List Bool
marks_of marks k = elim (slice_get marks k) [ Some ms ↦ ms | None ↦ [] ]

-- a local of an activation has been set
abbrev pub set_mark : Marks → ℕ → ℕ → Marks
set_mark marks k x = slice_set marks k (slice_set (marks_of marks k) x true)

-- in an activation that begins with so many arguments, these have been set
abbrev pub first_marks : ℕ → LinearFunction → List Bool
first_marks count function =
    replicate count true ++ replicate (function.body.locals - function.parameters) false

-- ---- what a step sets

-- what an operation leads to, where its operands are there
abbrev pub outcome_of : LinearProgram → Operation → Option ℕ → Option ℕ → Memory
    → Option OperationResult
outcome_of program o (Some a) (Some b) memory =
    Some (performed (is_reserved program.globals) o a b memory)
outcome_of program o a b memory = None

abbrev pub local_in : Slot → Option ℕ
local_in (Local x) = Some x
local_in to = None

-- an operation that faults sets nothing
abbrev pub local_given : Option OperationResult → Slot → Option ℕ
local_given (Some (Gives v memory)) to = local_in to
local_given outcome to = None

-- the local that an instruction writes
abbrev pub local_written : LinearProgram → Instruction → Configuration → Option ℕ
local_written program (instructions.Compute to o first second) c =
    local_given (outcome_of program o (operand (is_constant o) c first)
    (operand (is_constant o) c second) c.store.memory) to
local_written program (instructions.Information to field) c = local_in to
local_written program (instructions.Landing to) c = local_in to
local_written program i c = None

abbrev pub with_mark : Option ℕ → ℕ → Marks → Marks
with_mark None k marks = marks
with_mark (Some x) k marks = set_mark marks k x

-- among these events, a `__finally` block begins
abbrev pub begins_block : List Event → Bool
begins_block [] = false
begins_block (events.Finally k abnormal ∷ es) = true
begins_block (e ∷ es) = begins_block es

-- the flag of a body, if it is a `__finally` block
abbrev pub flag_in_body : LinearProgram → BodyName → Option ℕ
flag_in_body program (FunctionBody f) = None
flag_in_body program (FuncletBody k) = flag_of (slice_get program.funclets k)

-- where a `__finally` block begins, its flag has been set
abbrev pub flag_set : LinearProgram → Bool → BodyName → Option ℕ
flag_set program true name = flag_in_body program name
flag_set program false name = None

-- ---- a step

-- how many activations live after an instruction before a function begins: all, but for that of a
-- function that returns; fewer where an unwinding has left some, and then none begins
abbrev pub activations_left : Instruction → Configuration → ℕ
activations_left (instructions.Return from) c =
    length (left_store c.frame.body c.frame.activation c.store).activations
activations_left i c = length c.store.activations

-- how many arguments a function has that begins: those of a call, or the code and the flags that a
-- vectored handler is asked about
abbrev pub arguments_passed : Instruction → ℕ
arguments_passed (instructions.Call f first count) = count
arguments_passed i = 2

abbrev pub function_of_body : LinearProgram → BodyName → Option LinearFunction
function_of_body program (FunctionBody f) = slice_get program.functions f
function_of_body program (FuncletBody k) = None

-- a function has begun, after those activations that were left; or of the old ones so many live
abbrev pub begun_marks : (has_begun : Bool) → Option LinearFunction → (count left live : ℕ) → Marks
    → Marks
begun_marks true (Some function) count left live marks =
    take left marks ++ first_marks count function ∷ []
begun_marks has_begun function count left live marks = take live marks

-- a function has begun where more activations live than were left; otherwise those that live have
-- their marks
abbrev pub marks_left : LinearProgram → Instruction → Configuration → Configuration → Marks → Marks
marks_left program i c d marks =
    begun_marks (nat_lt (activations_left i c) (length d.store.activations))
    (function_of_body program d.frame.body) (arguments_passed i) (activations_left i c)
    (length d.store.activations) marks

-- the marks after a step by an instruction from c to d
abbrev pub next_marks : LinearProgram → Instruction → Configuration → Configuration → Marks → Marks
next_marks program i c d marks =
    with_mark (flag_set program (begins_block (drop (length c.events) d.events)) d.frame.body)
    d.frame.activation
    (with_mark (local_written program i c) c.frame.activation (marks_left program i c d marks))
