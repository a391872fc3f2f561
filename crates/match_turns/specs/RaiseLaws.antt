-- What is claimed of raises and of local unwinds.
use Rattle.std.specs.Prelude.{◌≡◌, ℕ, zero, List, [], ◌∷◌, Some, None}
use Rattle.x64_machine.specs.declared.cpu.Cpu.{Cpu}
use Rattle.x64_machine.specs.Contexts.{context_of}
use Rattle.x64_machine.specs.Effect.{State}
use Rattle.virtual_unwind.specs.CallerOf.{Functions, distance}
use Rattle.host_model.specs.declared.funclet.Funclet.{Funclet}
use Rattle.host_model.specs.Funclets.{arrivals}
use Rattle.c_operations.specs.declared.built_in.BuiltIn.TheVariants.{RaiseException}
use Rattle.linear_code.specs.declared.instruction.Instruction.TheVariants as instructions
use Rattle.linear_code.specs.Program.{LinearProgram}
use Rattle.linear_machine.specs.Frames.{AfterCall, Waits, Configuration}
use Rattle.linear_machine.specs.Searching.{resumed}
use Rattle.linear_machine.specs.Instructions.{act}
use Rattle.linear_machine.specs.Run.{instruction_at, exec}
use Rattle.match_stack.specs.Stack.{StackItem}
use Rattle.match_stack.specs.ImagePlan.{ImagePlan}
use Rattle.match_stack.specs.ItemMatches.{Activation, locals_of, ResumesFrom}
use Rattle.match_stack.specs.StackRecords.{On}
use Rattle.match_stack.specs.DispatchStates.{IsWellFormed, host_list}
use Rattle.match_runs.specs.Ends.{HasRule}
use Rattle.match_runs.specs.Matched.{IsMatched}
use Rattle.match_runs.specs.Comes.{LeadsTo}
use Rattle.match_bodies.specs.CodeSites.{Sites}
use Rattle.match_bodies.specs.ProgramImages.{IsMachineMemory, IsProgramImage}
use Rattle.match_bodies.specs.Bodies.{turns_left, RepresentsAt}
use Rattle.match_bodies.specs.ConfigurationFacts.{IsWellMade, IsKnown, KnownNext}
use Rattle.match_bodies.specs.StepLaws.{turns_per_step}
use Rattle.match_turns.specs.FuncletEntry.{entry_turns, FlagsFit}
use Rattle.match_turns.specs.DispatchOutcome.{Represents}
use Rattle.match_turns.specs.AskOutcome.{IsMatchedOrAsks}
use Rattle.match_turns.specs.ExceptionContinuation.{Continuations}
use Rattle.match_turns.specs.LocalUnwindPlaces.{AreFollowed, StayInside}

-- a call of RaiseException: its event is shown, and a vectored handler, a filter or a `__finally`
-- block begins, a handler takes over, or nobody does
abbrev pub RaisesAreMatched : Type 0
RaisesAreMatched =
    (t : Functions) (fs : List Funclet) (program : LinearProgram) (p : ImagePlan) (q : Sites)
    → IsProgramImage t fs program p q → IsWellMade program p → FlagsFit program
    → (s : State) (c : Configuration) (first : ℕ)
    → RepresentsAt t fs program p q s c → IsKnown program c
    → instruction_at program c ≡ Some (instructions.CallBuiltIn RaiseException first)
    → HasRule (act program (instructions.CallBuiltIn RaiseException first) (exec program zero) c)
    → KnownNext program c (instructions.CallBuiltIn RaiseException first)
    → IsMatchedOrAsks t fs program p q s c (instructions.CallBuiltIn RaiseException first)

-- a local unwind: its first `__finally` block begins, or the label's instruction
abbrev pub LocalUnwindsAreMatched : Type 0
LocalUnwindsAreMatched =
    (t : Functions) (fs : List Funclet) (program : LinearProgram) (p : ImagePlan) (q : Sites)
    → IsProgramImage t fs program p q → IsWellMade program p → AreFollowed program
    → StayInside program → FlagsFit program
    → (s : State) (c : Configuration) (label : ℕ)
    → RepresentsAt t fs program p q s c → IsKnown program c
    → instruction_at program c ≡ Some (instructions.LocalUnwind label)
    → HasRule (act program (instructions.LocalUnwind label) (exec program zero) c)
    → KnownNext program c (instructions.LocalUnwind label)
    → IsMatched t fs program turns_per_step turns_left (Represents t fs program p q) s c
    (instructions.LocalUnwind label)

-- where the exception of a call is continued, the body continues from the saved state
abbrev pub ContinuationsAfterCalls : Type 0
ContinuationsAfterCalls =
    (t : Functions) (fs : List Funclet) (program : LinearProgram) (p : ImagePlan) (q : Sites)
    → IsProgramImage t fs program p q → IsWellMade program p
    → (s : State) (saved : Cpu) (is : List StackItem) (acts : List Activation) (c : Configuration)
    → On t fs program p s.memory (context_of saved) is (Waits c.frame ∷ c.below) acts
    → IsWellFormed (host_list p c.store) (record s { cpu = saved })
    → ResumesFrom p AfterCall c.frame acts saved
    → IsMachineMemory t fs program p q s.memory c.store.memory
    → c.store.activations ≡ locals_of acts
    → (arrivals saved (distance t.base saved.rip) 1 fs ≡ [])
    × (IsKnown program (resumed AfterCall c) → c.frame.landed ≡ None
    → LeadsTo t fs entry_turns (RepresentsAt t fs program p q)
    (record s { cpu = saved }) (resumed AfterCall c))

-- and wherever one is continued, after a call or at the same operation
abbrev pub BodiesContinue : Type 0
BodiesContinue =
    (t : Functions) (fs : List Funclet) (program : LinearProgram) (p : ImagePlan) (q : Sites)
    → IsProgramImage t fs program p q → IsWellMade program p → Continuations t fs program p q
