-- What is asked of the bodies that continue where an exception is continued.
--
-- The main definition: `Continuations`.
use Rattle.std.specs.Prelude.{◌≡◌, List, [], ◌∷◌, None}
use Rattle.x64_machine.specs.declared.cpu.Cpu.{Cpu}
use Rattle.x64_machine.specs.Contexts.{context_of}
use Rattle.x64_machine.specs.Effect.{State}
use Rattle.virtual_unwind.specs.CallerOf.{Functions, distance}
use Rattle.host_model.specs.declared.funclet.Funclet.{Funclet}
use Rattle.host_model.specs.Funclets.{arrivals}
use Rattle.linear_code.specs.Program.{LinearProgram}
use Rattle.linear_machine.specs.Frames.{Resumption, Waits, Configuration}
use Rattle.linear_machine.specs.Searching.{resumed}
use Rattle.match_stack.specs.Stack.{StackItem}
use Rattle.match_stack.specs.ImagePlan.{ImagePlan}
use Rattle.match_stack.specs.ItemMatches.{Activation, locals_of, ResumesFrom}
use Rattle.match_stack.specs.StackRecords.{On}
use Rattle.match_stack.specs.DispatchStates.{IsWellFormed, host_list}
use Rattle.match_runs.specs.Comes.{LeadsTo}
use Rattle.match_bodies.specs.CodeSites.{Sites}
use Rattle.match_bodies.specs.ProgramImages.{IsMachineMemory}
use Rattle.match_bodies.specs.ConfigurationFacts.{IsKnown}
use Rattle.match_turns.specs.FuncletEntry.{entry_turns}
use Rattle.match_turns.specs.DispatchOutcome.{Represents}

module _ (t : Functions) (fs : List Funclet) (program : LinearProgram) (p : ImagePlan)
    (q : Sites) where
  -- where an exception is continued, the body continues from the saved state: after its call, whose
  -- result is kept, or with the same operation; it has not just taken over for another
  abbrev pub Continuations : Type 0
  Continuations =
      (s : State) (saved : Cpu) (is : List StackItem) (acts : List Activation)
      (resumption : Resumption) (c : Configuration)
      → On t fs program p s.memory (context_of saved) is (Waits c.frame ∷ c.below) acts
      → IsWellFormed (host_list p c.store) (record s { cpu = saved })
      → ResumesFrom p resumption c.frame acts saved
      → IsMachineMemory t fs program p q s.memory c.store.memory
      → c.store.activations ≡ locals_of acts
      → (arrivals saved (distance t.base saved.rip) 1 fs ≡ [])
      × (IsKnown program (resumed resumption c) → c.frame.landed ≡ None
      → LeadsTo t fs entry_turns (Represents t fs program p q)
      (record s { cpu = saved }) (resumed resumption c))
