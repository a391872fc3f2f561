-- What is claimed of operations that fault, that are made again, and that touch a reserved byte.
use Rattle.std.specs.Prelude.{◌≡◌, ℕ, zero, false, List, [], ◌∷◌, Some}
use Rattle.x64_machine.specs.declared.cpu.Cpu.{Cpu}
use Rattle.x64_machine.specs.Contexts.{context_of}
use Rattle.x64_machine.specs.Effect.{State}
use Rattle.virtual_unwind.specs.CallerOf.{Functions, distance}
use Rattle.host_model.specs.declared.funclet.Funclet.{Funclet}
use Rattle.host_model.specs.Funclets.{arrivals}
use Rattle.c_operations.specs.declared.operation.Operation.{Operation}
use Rattle.c_operations.specs.Performed.{Undefined}
use Rattle.linear_code.specs.declared.slot.Slot.{Slot}
use Rattle.linear_code.specs.declared.slot.Slot.TheVariants.{Temporary}
use Rattle.linear_code.specs.declared.instruction.Instruction.{Instruction}
use Rattle.linear_code.specs.declared.instruction.Instruction.TheVariants as instructions
use Rattle.linear_code.specs.Program.{LinearProgram}
use Rattle.linear_machine.specs.Frames.{SameOperation, Waits, Configuration}
use Rattle.linear_machine.specs.Searching.{resumed}
use Rattle.linear_machine.specs.Instructions.{is_constant, act}
use Rattle.linear_machine.specs.Run.{instruction_at, exec}
use Rattle.match_stack.specs.Stack.{StackItem}
use Rattle.match_stack.specs.ImagePlan.{ImagePlan}
use Rattle.match_stack.specs.ItemMatches.{Activation, locals_of, ResumesFrom}
use Rattle.match_stack.specs.StackRecords.{On}
use Rattle.match_stack.specs.DispatchStates.{IsWellFormed, host_list}
use Rattle.match_runs.specs.Ends.{HasRule}
use Rattle.match_runs.specs.Matched.{Fails}
use Rattle.match_runs.specs.Comes.{LeadsTo}
use Rattle.match_bodies.specs.CodeSites.{Sites}
use Rattle.match_bodies.specs.ProgramImages.{IsMachineMemory, IsProgramImage}
use Rattle.match_bodies.specs.Bodies.{turns_left, RepresentsAt}
use Rattle.match_bodies.specs.ConfigurationFacts.{IsWellMade, IsKnown, KnownNext}
use Rattle.match_bodies.specs.StepLaws.{turns_per_step}
use Rattle.match_turns.specs.FuncletEntry.{entry_turns, FlagsFit}
use Rattle.match_turns.specs.DispatchOutcome.{WorksOn, Represents}
use Rattle.match_turns.specs.AskOutcome.{IsMatchedOrAsks}
use Rattle.match_turns.specs.OperationOutcome.{ComesTo}

-- the most turns from where an operation begins to where its operands are in their registers
abbrev pub fetch_turns : ℕ
fetch_turns = 3

-- an operation that touches a reserved byte ends linear code with no event, wherever the machine is
abbrev pub UndefinedAccessesAreMatched : Type 0
UndefinedAccessesAreMatched =
    (t : Functions) (fs : List Funclet) (program : LinearProgram)
    → (s : State) (c : Configuration) (to : Slot) (o : Operation) (first second : Slot) (at : ℕ)
    → ComesTo program c o first second (Undefined at)
    → Fails t fs program turns_per_step turns_left s c (instructions.Compute to o first second)

-- from where an operation of two temporaries begins, the machine comes to the instruction that
-- makes it
abbrev pub OperandsAreFetched : Type 0
OperandsAreFetched =
    (t : Functions) (fs : List Funclet) (program : LinearProgram) (p : ImagePlan) (q : Sites)
    → IsProgramImage t fs program p q → IsWellMade program p
    → (s : State) (c : Configuration) (to : Slot) (o : Operation) (first second : ℕ)
    → RepresentsAt t fs program p q s c → IsKnown program c → is_constant o ≡ false
    → instruction_at program c ≡ Some (instructions.Compute to o (Temporary first)
    (Temporary second))
    → LeadsTo t fs fetch_turns (WorksOn t fs program p q) s c

-- from there the operation is made on what memory holds by then: it gives its number, or faults, or
-- has touched a reserved byte
abbrev pub RetriesAreMatched : Type 0
RetriesAreMatched =
    (t : Functions) (fs : List Funclet) (program : LinearProgram) (p : ImagePlan) (q : Sites)
    → IsProgramImage t fs program p q → IsWellMade program p → FlagsFit program
    → (s : State) (c : Configuration) (i : Instruction)
    → WorksOn t fs program p q s c → IsKnown program c → instruction_at program c ≡ Some i
    → HasRule (act program i (exec program zero) c) → KnownNext program c i
    → IsMatchedOrAsks t fs program p q s c i

-- where a fault is continued, the machine is there at once, in the saved state
abbrev pub ContinuationsAtOperations : Type 0
ContinuationsAtOperations =
    (t : Functions) (fs : List Funclet) (program : LinearProgram) (p : ImagePlan) (q : Sites)
    → IsProgramImage t fs program p q → IsWellMade program p
    → (s : State) (saved : Cpu) (is : List StackItem) (acts : List Activation) (c : Configuration)
    → On t fs program p s.memory (context_of saved) is (Waits c.frame ∷ c.below) acts
    → IsWellFormed (host_list p c.store) (record s { cpu = saved })
    → ResumesFrom p SameOperation c.frame acts saved
    → IsMachineMemory t fs program p q s.memory c.store.memory
    → c.store.activations ≡ locals_of acts
    → (arrivals saved (distance t.base saved.rip) 1 fs ≡ [])
    × LeadsTo t fs entry_turns (Represents t fs program p q)
    (record s { cpu = saved })
    (resumed SameOperation c)

-- each operation is matched, where its instruction begins and within it
abbrev pub OperationsAreMatched : Type 0
OperationsAreMatched =
    (t : Functions) (fs : List Funclet) (program : LinearProgram) (p : ImagePlan) (q : Sites)
    → IsProgramImage t fs program p q → IsWellMade program p → FlagsFit program
    → (s : State) (c : Configuration) (to : Slot) (o : Operation) (first second : Slot)
    → Represents t fs program p q s c → IsKnown program c
    → instruction_at program c ≡ Some (instructions.Compute to o first second)
    → HasRule (act program (instructions.Compute to o first second) (exec program zero) c)
    → KnownNext program c (instructions.Compute to o first second)
    → IsMatchedOrAsks t fs program p q s c (instructions.Compute to o first second)
