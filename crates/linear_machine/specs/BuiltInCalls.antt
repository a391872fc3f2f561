-- Which built-in functions a program calls, and what one shows that doesn't call `walk`.
use Rattle.std.specs.Prelude.{◌≡◌, ℕ, ℤ, Some}
use Rattle.std.specs.List.{AllByRecursion}
use Rattle.seh_num.specs.declared.event.Event.{Event}
use Rattle.seh_num.specs.declared.event.Event.TheVariants.{At}
use Rattle.c_operations.specs.declared.built_in.BuiltIn.{BuiltIn}
use Rattle.c_operations.specs.declared.built_in.BuiltIn.TheVariants.{Walk}
use Rattle.linear_code.specs.declared.instruction.Instruction.TheVariants.{CallBuiltIn}
use Rattle.linear_code.specs.Program.{LinearProgram}
use Rattle.linear_machine.specs.Frames.{BodyName, body_of}
use Rattle.linear_machine.specs.Run.{instruction_in, linear_meaning}

-- a body of a program calls a built-in function
pub record CallsBuiltIn (program : LinearProgram) (f : BuiltIn) : Type 0 where
  pub name : BodyName
  pub label : ℕ
  pub first : ℕ
  pub calls : instruction_in (body_of program name) label ≡ Some (CallBuiltIn f first)

-- an event that no printed walk shows
abbrev pub IsNotAt : Event → Type 0
IsNotAt (At k) = ⊥
IsNotAt e = Unit {0}

-- a program that doesn't call `walk` shows no such event
abbrev pub WalksAreCalled : Type 0
WalksAreCalled =
    (program : LinearProgram) (arg : ℤ) (n : ℕ) → (CallsBuiltIn program Walk → ⊥)
    → AllByRecursion IsNotAt (linear_meaning program arg n).events
