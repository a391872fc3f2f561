-- What is claimed of the steps of linear code that need neither a call nor the dispatcher.
--
-- The main definition: `IsWithinBody`.
use Rattle.std.specs.Prelude.{◌≡◌, ℕ, zero, List, Some}
use Rattle.flat_memory.specs.Memory.{Memory}
use Rattle.x64_machine.specs.Effect.{State}
use Rattle.virtual_unwind.specs.CallerOf.{Functions}
use Rattle.host_model.specs.declared.funclet.Funclet.{Funclet}
use Rattle.c_operations.specs.declared.operation.Operation.{Operation}
use Rattle.c_operations.specs.Performed.{Gives, performed}
use Rattle.source_meaning.specs.Source.{is_reserved}
use Rattle.linear_code.specs.declared.slot.Slot.{Slot}
use Rattle.linear_code.specs.declared.instruction.Instruction.{Instruction}
use Rattle.linear_code.specs.declared.instruction.Instruction.TheVariants as instructions
use Rattle.linear_code.specs.Program.{LinearProgram}
use Rattle.linear_machine.specs.Frames.{Configuration}
use Rattle.linear_machine.specs.Instructions.{is_constant, operand, act}
use Rattle.linear_machine.specs.Run.{instruction_at, exec}
use Rattle.match_stack.specs.ImagePlan.{ImagePlan}
use Rattle.match_runs.specs.Ends.{HasRule}
use Rattle.match_runs.specs.Matched.{Moves}
use Rattle.match_bodies.specs.CodeSites.{Sites}
use Rattle.match_bodies.specs.ProgramImages.{IsProgramImage}
use Rattle.match_bodies.specs.Bodies.{turns_left, RepresentsAt}
use Rattle.match_bodies.specs.ConfigurationFacts.{IsWellMade, IsKnown}

-- turns of the machine that a step takes at most, with what earlier steps left
abbrev pub turns_per_step : ℕ
turns_per_step = 16

module _ (program : LinearProgram) where
  -- an operation gives a number, without a fault
  pub record Completes (c : Configuration) (o : Operation) (first second : Slot) : Type 0 where
    pub a : ℕ
    pub b : ℕ
    pub reads_first : operand (is_constant o) c first ≡ Some a
    pub reads_second : operand (is_constant o) c second ≡ Some b
    pub value : ℕ
    pub memory : Memory
    pub gives : performed (is_reserved program.globals) o a b c.store.memory ≡ Gives value memory

  -- a step within one body: an operation without a fault, a jump, a test, a separator, a landing
  abbrev pub IsWithinBody : Configuration → Instruction → Type 0
  IsWithinBody c (instructions.Compute to o first second) = Completes c o first second
  IsWithinBody c (instructions.Jump label) = Unit {0}
  IsWithinBody c (instructions.JumpIfZero slot label) = Unit {0}
  IsWithinBody c (instructions.Landing to) = Unit {0}
  IsWithinBody c instructions.Separator = Unit {0}
  IsWithinBody c other = ⊥

-- where an instruction begins in a state that represents a configuration, the machine makes its
-- step in one turn or more, shows nothing, and represents the next configuration
abbrev pub StepsWithinBodiesAreMatched : Type 0
StepsWithinBodiesAreMatched =
    (t : Functions) (fs : List Funclet) (program : LinearProgram) (p : ImagePlan) (q : Sites)
    → IsProgramImage t fs program p q → IsWellMade program p
    → (s : State) (c : Configuration) (i : Instruction)
    → RepresentsAt t fs program p q s c → IsKnown program c → instruction_at program c ≡ Some i
    → IsWithinBody program c i
    → HasRule (act program i (exec program zero) c)
    → Moves t fs program turns_per_step turns_left (RepresentsAt t fs program p q) s c i

-- a separator takes one turn
abbrev pub SeparatorsAreMatched : Type 0
SeparatorsAreMatched =
    (t : Functions) (fs : List Funclet) (program : LinearProgram) (p : ImagePlan) (q : Sites)
    → IsProgramImage t fs program p q → IsWellMade program p
    → (s : State) (c : Configuration)
    → RepresentsAt t fs program p q s c → IsKnown program c
    → instruction_at program c ≡ Some instructions.Separator
    → Moves t fs program 1 turns_left (RepresentsAt t fs program p q) s c instructions.Separator
