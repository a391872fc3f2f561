-- The template of each instruction, and the code of a body.
--
-- The main definitions: `template`, `code_from`, `template_size`.
use Rattle.std.specs.Prelude.{◌≡◌, ℕ, ◌+◌, List, [], ◌∷◌, ◌++◌, take}
use Rattle.x64_instr.specs.declared.instruction.Instr.{Instr}
use Rattle.c_operations.specs.declared.built_in.BuiltIn.{BuiltIn}
use Rattle.linear_code.specs.declared.instruction.Instruction.{Instruction}
use Rattle.linear_code.specs.declared.instruction.Instruction.TheVariants as instructions
use Rattle.template_code.specs.declared.layout.Layout.{Layout}
use Rattle.template_code.specs.Bytes.{sizes}
use Rattle.template_code.specs.Slots.{keep, compute_code}
use Rattle.template_code.specs.Jumps.{jump_code, jump_if_zero_code, separator_code}
use Rattle.template_code.specs.Calls.{call_built_in_code, passing_call_code, call_finally_code, local_unwind_code, return_code, information_code}

-- the addresses of everything that code refers to: the labels of the body, functions, thunks,
-- `__finally` blocks, and the thunk of `_local_unwind`
pub record Links : Type 0 where
  pub label : ℕ → ℕ
  pub function : ℕ → ℕ
  pub known : BuiltIn → ℕ
  pub funclet : ℕ → ℕ
  pub local_unwind : ℕ

-- the machine instructions of an instruction of linear code, by its address, by the `Layout` of its
-- body's frame and by `Links`, the addresses of all that it refers to. A layout says where locals,
-- temporaries and what a funclet keeps are, and where all of these end.
abbrev pub template : Links → Layout → ℕ → Instruction → List Instr
template k y at (instructions.Compute to o first second) = compute_code y to o first second
template k y at (instructions.Information to field) = information_code y to field
template k y at (instructions.Landing to) = keep y to
template k y at (instructions.Jump label) = jump_code at (k.label label)
template k y at (instructions.JumpIfZero slot label) = jump_if_zero_code y slot at (k.label label)
template k y at (instructions.Call function first count) =
    passing_call_code y first count at (k.function function)
template k y at (instructions.CallBuiltIn function first) =
    call_built_in_code y first at (k.known function)
template k y at (instructions.CallFinally funclet) = call_finally_code at (k.funclet funclet)
template k y at (instructions.LocalUnwind label) =
    local_unwind_code at (k.label label) k.local_unwind
template k y at instructions.Separator = separator_code
template k y at (instructions.Return from) = return_code y from

-- how many bytes a template takes, wherever everything is placed
abbrev pub nowhere : Links
nowhere =
    record { label = λ l. 0; function = λ f. 0; known = λ f. 0; funclet = λ f. 0; local_unwind = 0 }

-- how many bytes one takes, which depends on no address (law `sizes_are_fixed`)
unfoldable pub template_size : Layout → Instruction → ℕ
template_size y instruction = sizes (template nowhere y 0 instruction)

-- the bytes of a body's instructions, and where the one of a number begins in them
abbrev pub body_size : Layout → List Instruction → ℕ
body_size y [] = 0
body_size y (instruction ∷ more) = template_size y instruction + body_size y more

abbrev pub offset_of : Layout → List Instruction → ℕ → ℕ
offset_of y body number = body_size y (take number body)

-- the templates of a body, one after another
abbrev pub code_from : Links → Layout → ℕ → List Instruction → List Instr
code_from k y at [] = []
code_from k y at (instruction ∷ more) =
    template k y at instruction ++ code_from k y (at + template_size y instruction) more

-- a body that begins here, whose labels are the numbers of its instructions
abbrev pub HasLabels : Links → Layout → ℕ → List Instruction → Type 0
HasLabels k y start body = (number : ℕ) → k.label number ≡ start + offset_of y body number
