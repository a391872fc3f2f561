-- What is claimed of configurations that differ in locals alone that haven't been set.
use Rattle.std.specs.Prelude.{◌≡◌, ℕ, ◌-◌, List, [], ◌∷◌, length, slice_get, ℤ, Some}
use Rattle.std.specs.List.{AllByRecursion}
use Rattle.linear_code.specs.declared.instruction.Instruction.{Instruction}
use Rattle.linear_code.specs.declared.instruction.Instruction.TheVariants as instructions
use Rattle.linear_code.specs.Program.{LinearProgram, LinearFunction}
use Rattle.source_meaning.specs.Source.{first_memory}
use Rattle.linear_machine.specs.Frames.{Waits, Configuration, last_temporaries}
use Rattle.linear_machine.specs.Instructions.{begin_function, waiting}
use Rattle.linear_machine.specs.Run.{start, main_arguments}
use Rattle.lowering_invariants.specs.Turns.{IsTurn, IsReached}
use Rattle.lowering_invariants.specs.Ready.{CanContinue}
use Rattle.lowering_invariants.specs.Waiting.{IsStacked}
use Rattle.lowering_invariants.specs.Activations.{HasActivations}
use Rattle.lowering_invariants.specs.SmallNumbers.{AreSmall, HasSmallNumbers}
use Rattle.lowering_invariants.specs.Depths.{HasDepths}
use Rattle.lowering_locals.specs.Marks.{Marks, next_marks}
use Rattle.lowering_locals.specs.Alike.{AreAlike, freshly, GoAlike}
use Rattle.lowering_locals.specs.Reads.{ReadsSet, start_marks, IsMarked}

-- an instruction that reads locals alone that have been set leads from alike to alike
abbrev pub StepsAreAlike : Type 0
StepsAreAlike =
    (program : LinearProgram) (i : Instruction) (marks : Marks) (c d : Configuration)
    → AreAlike marks c d → ReadsSet marks c i → GoAlike program i marks c d

-- the function that a call begins, and the same with other numbers in the locals after its
-- arguments
module _ (c d : Configuration) (f first : ℕ) (function : LinearFunction)
    (arguments values : List ℕ) where
  abbrev pub called : Configuration
  called =
      begin_function f function arguments c.frame.held
      (Waits (waiting c first).frame ∷ c.below) c.store c.events

  abbrev pub called_with : Configuration
  called_with =
      freshly f function arguments values d.frame.held
      (Waits (waiting d first).frame ∷ d.below) d.store d.events

abbrev pub CallsAreAlike : Type 0
CallsAreAlike =
    (program : LinearProgram) (marks : Marks) (c d : Configuration) (f first count : ℕ)
    (function : LinearFunction) (arguments values : List ℕ)
    → AreAlike marks c d → last_temporaries c.frame.temporaries first count ≡ Some arguments
    → slice_get program.functions f ≡ Some function
    → length values ≡ function.body.locals - function.parameters
    → AreAlike (next_marks program (instructions.Call f first count) c
    (called c d f first function arguments values) marks)
    (called c d f first function arguments values)
    (called_with c d f first function arguments values)

-- `main` with other numbers in the locals after its arguments
abbrev pub started_with : LinearProgram → ℤ → LinearFunction → List ℕ → Configuration
started_with program arg main values =
    freshly program.main main (main_arguments main.parameters arg) values 0 []
    (record { memory = first_memory program.globals; activations = []; vectored = [] }) []

abbrev pub StartsAreAlike : Type 0
StartsAreAlike =
    (program : LinearProgram) (arg : ℤ) (main : LinearFunction) (values : List ℕ)
    → length values ≡ main.body.locals - main.parameters
    → AreAlike (start_marks program arg main) (start program arg main)
    (started_with program arg main values)

-- ---- runs with their marks

abbrev pub MarkedIsReached : Type 0
MarkedIsReached =
    (program : LinearProgram) (c : Configuration) (marks : Marks) → IsMarked program c marks
    → IsReached program c

abbrev pub MarkedContinues : Type 0
MarkedContinues =
    (program : LinearProgram) (c d : Configuration) (marks : Marks) → IsMarked program c marks
    → (turn : IsTurn program c d)
    → IsMarked program d (next_marks program turn.instruction c d marks)

-- ---- what holds of one holds of the other

abbrev pub AlikeContinues : Type 0
AlikeContinues =
    (program : LinearProgram) (marks : Marks) (c d : Configuration) → AreAlike marks c d
    → CanContinue program c → CanContinue program d

abbrev pub AlikeIsStacked : Type 0
AlikeIsStacked =
    (program : LinearProgram) (marks : Marks) (c d : Configuration) → AreAlike marks c d
    → IsStacked program c → IsStacked program d

abbrev pub AlikeHasActivations : Type 0
AlikeHasActivations =
    (program : LinearProgram) (marks : Marks) (c d : Configuration) → AreAlike marks c d
    → HasActivations program c → HasActivations program d

abbrev pub AlikeHasDepths : Type 0
AlikeHasDepths =
    (program : LinearProgram) (marks : Marks) (c d : Configuration) → AreAlike marks c d
    → HasDepths program c → HasDepths program d

-- where its locals are numbers of 64 bits
abbrev pub AlikeIsSmall : Type 0
AlikeIsSmall =
    (marks : Marks) (c d : Configuration) → AreAlike marks c d
    → AllByRecursion AreSmall d.store.activations → HasSmallNumbers c → HasSmallNumbers d
