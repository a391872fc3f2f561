-- The linear code of a program.
--
-- The main definitions: `first_separators`, `first_count`, `asking`, `open_code`, `close_code`.
use Rattle.std.specs.Prelude.{ℕ, ◌+◌, if◌then◌else◌, List, [], ◌∷◌, ◌++◌, length, map, replicate, Option, Some, None}
use Rattle.c_operations.specs.declared.operation.Operation.TheVariants.{Allocate, Place}
use Rattle.c_checked.specs.declared.function.StackedParameter.{StackedParameter}
use Rattle.c_checked.specs.Program.{DataFrame, part_of, Program, Function, frame_surplus, data_surplus, surplus, weight}
use Rattle.c_checked.specs.Sound.{can_handle}
use Rattle.linear_code.specs.declared.instruction.Instruction.{Instruction}
use Rattle.linear_code.specs.declared.slot.Slot.TheVariants.{Local, Temporary}
use Rattle.linear_code.specs.declared.instruction.Instruction.TheVariants.{Compute, Separator, Return}
use Rattle.linear_code.specs.Program.{LinearFunction, LinearFunclet, LinearProgram}
use Rattle.lowering_expressions.specs.declared.scope.LoweringContext.{LoweringContext}
use Rattle.lowering_expressions.specs.Scope.{function_scope}
use Rattle.lowering_sizes.specs.Sizes.{statements_size, statements_notes}
use Rattle.lowering_registers.specs.Shared.{register_locals}
pub use Rattle.lowering_registers.specs.Shared.{own_locals}
use Rattle.seh_ir.specs.Slots.{body_with}
use Rattle.lowering_expressions.specs.Expressions.{constant}
use Rattle.seh_ir.specs.Statements.{set_pointer, statements_code}
use Rattle.seh_ir.specs.Regions.{statements_regions}
use Rattle.seh_ir.specs.Funclets.{statements_funclets}
use Rattle.seh_ir.specs.ColdParts.{statements_cold}

-- parameters and locals, and after them codes and flags
abbrev pub all_locals : Function → ℕ
all_locals f = own_locals f + statements_notes f.body

-- to ask a vectored handler is a step of its own, and a function that can be one begins with a
-- separator for it
abbrev pub asking : Function → ℕ
asking f = if can_handle (Some f) then 1 else 0

-- a function begins with a separator, so that no region of it begins where its prologue ends, with
-- one for each further step that an activation of it counts, as many as it weighs, and with one
-- more where it can be asked
abbrev pub first_separators : Function → List Instruction
first_separators f = Separator ∷ replicate (surplus f + asking f) Separator

-- how many these are
abbrev pub first_count : Function → ℕ
first_count f = weight f + asking f

-- the parameters on the data stack are brought to where they stand
abbrev pub bring_code : (base : ℕ) → List StackedParameter → List Instruction
bring_code base [] = []
bring_code base (p ∷ ps) =
    Compute (Local p.parameter) (Place p.width p.offset) (Local base) (Local p.parameter)
    ∷ bring_code base ps

-- after the separators a function's part of the data stack begins at the pointer
abbrev pub open_code : Option DataFrame → List Instruction
open_code None = []
open_code (Some d) =
    Compute (Local d.base) (Allocate d.size) (Local d.base) (Local d.base)
    ∷ bring_code d.base d.parameters

abbrev pub open_size : Option DataFrame → ℕ
open_size None = 0
open_size (Some d) = 1 + length d.parameters

-- at its exit it gives its part back
abbrev pub close_code : Option DataFrame → List Instruction
close_code None = []
close_code (Some d) = set_pointer d.base 0 ∷ []

-- where the code of its body begins
abbrev pub body_start : Function → ℕ
body_start f = first_count f + open_size f.data_frame

-- after that comes its body; it returns 0 at its end, and what its first temporary holds at its
-- exit, where each `return` leads
abbrev pub scope_of : Function → LoweringContext
scope_of f =
    function_scope (part_of f.data_frame) (own_locals f) (body_start f + statements_size f.body + 1)

abbrev pub function_code : Function → List Instruction
function_code f =
    first_separators f ++ (open_code f.data_frame
    ++ (statements_code (scope_of f) f.body (body_start f)
    ++ (constant 0 0 ∷ (close_code f.data_frame ++ Return (Temporary 0) ∷ []))))

abbrev pub lowered_function : Function → LinearFunction
lowered_function f = record {
  name = f.name;
  parameters = length f.parameters;
  registers = register_locals f;
  surplus = frame_surplus f;
  data_surplus = data_surplus f;
  body =
      body_with (all_locals f) (function_code f) (statements_regions f.body (body_start f))
      (statements_cold f.body (body_start f));
}

-- the funclets of a function of this number
abbrev pub lowered_funclets : ℕ → Function → List LinearFunclet
lowered_funclets number f =
    statements_funclets (record { function = number; locals = all_locals f; parent = None })
    (scope_of f).names f.body

abbrev pub all_funclets : ℕ → List Function → List LinearFunclet
all_funclets number [] = []
all_funclets number (f ∷ fs) = lowered_funclets number f ++ all_funclets (number + 1) fs

abbrev pub lowered : Program → LinearProgram
lowered p =
    record {
      globals = p.globals;
      main = p.main;
      functions = map lowered_function p.functions;
      funclets = all_funclets 0 p.functions;
    }
