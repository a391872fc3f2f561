-- What is claimed of steps that read a filter's exception, and of calls of the services that raise
-- nothing.
use Rattle.std.specs.Prelude.{◌≡◌, ℕ, List, Some}
use Rattle.x64_machine.specs.Effect.{State}
use Rattle.virtual_unwind.specs.CallerOf.{Functions}
use Rattle.host_model.specs.declared.funclet.Funclet.{Funclet}
use Rattle.c_operations.specs.declared.field.Field.{Field}
use Rattle.c_operations.specs.declared.built_in.BuiltIn.TheVariants.{Put, Protect, Walk, AddVectored, RemoveVectored}
use Rattle.linear_code.specs.declared.slot.Slot.{Slot}
use Rattle.linear_code.specs.declared.instruction.Instruction.TheVariants as instructions
use Rattle.linear_code.specs.Program.{LinearProgram}
use Rattle.linear_machine.specs.Frames.{Configuration}
use Rattle.linear_machine.specs.Run.{instruction_at}
use Rattle.match_stack.specs.ImagePlan.{ImagePlan}
use Rattle.match_runs.specs.Matched.{Moves}
use Rattle.match_bodies.specs.CodeSites.{Sites}
use Rattle.match_bodies.specs.ProgramImages.{IsProgramImage}
use Rattle.match_bodies.specs.Bodies.{turns_left, RepresentsAt}
use Rattle.match_bodies.specs.ConfigurationFacts.{IsWellMade, IsKnown}
use Rattle.match_bodies.specs.StepLaws.{turns_per_step}
use Rattle.match_turns.specs.FilterInformation.{FiltersReadInformation}

-- a filter reads a field of its exception from the record of its search
abbrev pub InformationIsMatched : Type 0
InformationIsMatched =
    (t : Functions) (fs : List Funclet) (program : LinearProgram) (p : ImagePlan) (q : Sites)
    → IsProgramImage t fs program p q → IsWellMade program p → FiltersReadInformation program
    → (s : State) (c : Configuration) (to : Slot) (field : Field)
    → RepresentsAt t fs program p q s c → IsKnown program c
    → instruction_at program c ≡ Some (instructions.Information to field)
    → Moves t fs program turns_per_step turns_left (RepresentsAt t fs program p q) s c
    (instructions.Information to field)

-- `put` shows its argument as a signed number, and its result is 0
abbrev pub PutsAreMatched : Type 0
PutsAreMatched =
    (t : Functions) (fs : List Funclet) (program : LinearProgram) (p : ImagePlan) (q : Sites)
    → IsProgramImage t fs program p q → IsWellMade program p
    → (s : State) (c : Configuration) (first : ℕ)
    → RepresentsAt t fs program p q s c → IsKnown program c
    → instruction_at program c ≡ Some (instructions.CallBuiltIn Put first)
    → Moves t fs program turns_per_step turns_left (RepresentsAt t fs program p q) s c
    (instructions.CallBuiltIn Put first)

-- `protect` sets the rights of a page, and its result says whether it has
abbrev pub ProtectsAreMatched : Type 0
ProtectsAreMatched =
    (t : Functions) (fs : List Funclet) (program : LinearProgram) (p : ImagePlan) (q : Sites)
    → IsProgramImage t fs program p q → IsWellMade program p
    → (s : State) (c : Configuration) (first : ℕ)
    → RepresentsAt t fs program p q s c → IsKnown program c
    → instruction_at program c ≡ Some (instructions.CallBuiltIn Protect first)
    → Moves t fs program turns_per_step turns_left (RepresentsAt t fs program p q) s c
    (instructions.CallBuiltIn Protect first)

-- `walk` shows the functions that wait, innermost first, and its result is 0
abbrev pub WalksAreMatched : Type 0
WalksAreMatched =
    (t : Functions) (fs : List Funclet) (program : LinearProgram) (p : ImagePlan) (q : Sites)
    → IsProgramImage t fs program p q → IsWellMade program p
    → (s : State) (c : Configuration) (first : ℕ)
    → RepresentsAt t fs program p q s c → IsKnown program c
    → instruction_at program c ≡ Some (instructions.CallBuiltIn Walk first)
    → Moves t fs program turns_per_step turns_left (RepresentsAt t fs program p q) s c
    (instructions.CallBuiltIn Walk first)

-- a function is put among the vectored handlers, and the result says whether it has been
abbrev pub AddsAreMatched : Type 0
AddsAreMatched =
    (t : Functions) (fs : List Funclet) (program : LinearProgram) (p : ImagePlan) (q : Sites)
    → IsProgramImage t fs program p q → IsWellMade program p
    → (s : State) (c : Configuration) (f first : ℕ)
    → RepresentsAt t fs program p q s c → IsKnown program c
    → instruction_at program c ≡ Some (instructions.CallBuiltIn (AddVectored f) first)
    → Moves t fs program turns_per_step turns_left (RepresentsAt t fs program p q) s c
    (instructions.CallBuiltIn (AddVectored f) first)

-- a function is taken out of the vectored handlers, and the result says whether it has been
abbrev pub RemovesAreMatched : Type 0
RemovesAreMatched =
    (t : Functions) (fs : List Funclet) (program : LinearProgram) (p : ImagePlan) (q : Sites)
    → IsProgramImage t fs program p q → IsWellMade program p
    → (s : State) (c : Configuration) (f first : ℕ)
    → RepresentsAt t fs program p q s c → IsKnown program c
    → instruction_at program c ≡ Some (instructions.CallBuiltIn (RemoveVectored f) first)
    → Moves t fs program turns_per_step turns_left (RepresentsAt t fs program p q) s c
    (instructions.CallBuiltIn (RemoveVectored f) first)
