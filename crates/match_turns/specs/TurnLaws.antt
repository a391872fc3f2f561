-- What is claimed of the turns in which the host dispatches.
use Rattle.std.specs.Prelude.{◌≡◌, ℕ, zero, ◌^◌, ◌<◌, ◌≤◌, Bool, List, [], ◌∷◌, length, Option}
use Rattle.seh_num.specs.declared.event.Code.{Code}
use Rattle.x64_machine.specs.declared.cpu.Cpu.{Cpu}
use Rattle.x64_machine.specs.Contexts.{context_of}
use Rattle.x64_machine.specs.Effect.{State}
use Rattle.virtual_unwind.specs.CallerOf.{Functions}
use Rattle.seh_records.specs.declared.dispatch.DispatchRecord.{DispatchRecord}
use Rattle.seh_walk.specs.Walk.{filter_return, finally_return}
use Rattle.host_model.specs.declared.funclet.Funclet.{Funclet}
use Rattle.host_model.specs.Funclets.{arrived}
use Rattle.host_model.specs.Dispatch.{place_of, raised, unwound_locally}
use Rattle.source_meaning.specs.State.{Exception}
use Rattle.source_meaning.specs.Raises.{raise_event}
use Rattle.linear_code.specs.declared.instruction.Instruction.{Instruction}
use Rattle.linear_code.specs.declared.program.Region.{Region}
use Rattle.linear_code.specs.Program.{LinearProgram}
use Rattle.linear_machine.specs.Frames.{Frame, Handler, FilterOf, Target, Resumption, Item, Waits, Searches, Unwinds, Configuration, Next}
use Rattle.linear_machine.specs.Searching.{raise}
use Rattle.linear_machine.specs.Instructions.{act, end_finally, local_unwind}
use Rattle.linear_machine.specs.Run.{exec}
use Rattle.match_stack.specs.Stack.{StackItem, Unwinding}
use Rattle.match_stack.specs.ImagePlan.{ImagePlan}
use Rattle.match_stack.specs.ItemMatches.{Activation, locals_of, Aimed, ResumesFrom}
use Rattle.match_stack.specs.StackRecords.{On}
use Rattle.match_stack.specs.DispatchStates.{IsWellFormed, host_list}
use Rattle.match_stack.specs.DispatchSteps.{AsksHost, IsException, SearchIsAnswered}
use Rattle.match_stack.specs.FilterReturns.{linear_answer}
use Rattle.match_runs.specs.Comes.{Comes}
use Rattle.match_runs.specs.Ends.{HasRule}
use Rattle.match_runs.specs.Matched.{IsMatched}
use Rattle.match_bodies.specs.CodeSites.{Sites}
use Rattle.match_bodies.specs.ProgramImages.{IsMachineMemory, IsProgramImage}
use Rattle.match_bodies.specs.Bodies.{turns_left}
use Rattle.match_bodies.specs.ConfigurationFacts.{KnownNext, AreListable}
use Rattle.match_turns.specs.FuncletEntry.{FlagsFit}
use Rattle.match_turns.specs.DispatchOutcome.{live_from, NoneLanded, Represents, Shows}
use Rattle.match_turns.specs.ExceptionContinuation.{Continuations}
use Rattle.match_turns.specs.AskOutcome.{ShowsOrAsks, IsMatchedOrAsks}
use Rattle.match_stack.specs.HostUnwind.{store_of}

-- the body that waits below a funclet, with what the funclet leaves in the store
abbrev pub waiting_below : Configuration → Frame → List Item → Configuration
waiting_below c w below = record { frame = w; below = below; store = c.store; events = c.events }

-- the body that waits below a vectored handler, whose own locals are gone
abbrev pub below_handler : Configuration → Frame → List Item → List Activation → Configuration
below_handler c w below acts = record {
  frame = w;
  below = below;
  store = store_of c.store acts;
  events = c.events;
}

-- where a few turns that show nothing lead to the host's return address of filters, the step of
-- linear code that ends the filter is matched, whatever the answer
abbrev pub FilterAnswersAreMatched : Type 0
FilterAnswersAreMatched =
    (t : Functions) (fs : List Funclet) (program : LinearProgram) (p : ImagePlan) (q : Sites)
    → IsProgramImage t fs program p q → FlagsFit program → Continuations t fs program p q
    → (k : ℕ) (s u : State) (c : Configuration) (i : Instruction) (r : DispatchRecord)
    (is : List StackItem) (acts : List Activation)
    (exception : Exception) (resumption : Resumption) (asked : Handler) (rest : List Handler)
    (w : Frame) (below : List Item)
    → Comes t fs k s [] u → k ≤ 6 → u.cpu.rip ≡ filter_return
    → c.below ≡ Searches exception resumption (FilterOf asked rest) ∷ Waits w ∷ below → NoneLanded
    c.below
    → SearchIsAnswered t fs program p u r is acts exception resumption asked rest
    (waiting_below c w below)
    → IsMachineMemory t fs program p q u.memory c.store.memory
    → c.store.activations ≡ locals_of acts
    → ((next : Next) → act program i next c ≡ linear_answer program u exception resumption asked
    rest (waiting_below c w below) next) → HasRule (act program i (exec program zero) c)
    → KnownNext program c i → AreListable program c.store.vectored
    → IsMatchedOrAsks t fs program p q s c i

-- and where they lead to that of `__finally` blocks, the step that ends the block
abbrev pub FinallyReturnsAreMatched : Type 0
FinallyReturnsAreMatched =
    (t : Functions) (fs : List Funclet) (program : LinearProgram) (p : ImagePlan) (q : Sites)
    → IsProgramImage t fs program p q → FlagsFit program
    → (k : ℕ) (s u : State) (c : Configuration) (i : Instruction) (r : DispatchRecord)
    (is : List StackItem) (acts : List Activation) (rest : List Region) (target : Target)
    (f : Frame) (below : List Item)
    → Comes t fs k s [] u → k ≤ 6 → u.cpu.rip ≡ finally_return
    → c.below ≡ Unwinds rest target ∷ Waits f ∷ below → NoneLanded c.below
    → IsWellFormed (host_list p c.store) u → On t fs program p u.memory (context_of u.cpu)
    (Unwinding r ∷ is)
    (Unwinds rest target ∷ Waits f ∷ below) acts
    → IsMachineMemory t fs program p q u.memory c.store.memory
    → c.store.activations ≡ locals_of acts
    → ((next : Next) → act program i next c ≡ end_finally program next c.below c.events c.store)
    → HasRule (act program i (exec program zero) c)
    → KnownNext program c i
    → IsMatched t fs program 16 turns_left (Represents t fs program p q) s c i

-- where a body asks the host, a raise shows its event, and then does what linear code does
abbrev pub RaisesAreShown : Type 0
RaisesAreShown =
    (t : Functions) (fs : List Funclet) (program : LinearProgram) (p : ImagePlan) (q : Sites)
    → IsProgramImage t fs program p q → FlagsFit program
    → (s : State) (saved : Cpu) (is : List StackItem) (acts : List Activation) (c : Configuration)
    → AsksHost t fs program p s saved is (Waits c.frame ∷ c.below) acts
    (host_list p c.store)
    → IsMachineMemory t fs program p q s.memory c.store.memory
    → c.store.activations ≡ locals_of acts
    → (code : Code) (flags : ℕ) (access : Option (Bool × ℕ)) (exception : Exception)
    (resumption : Resumption)
    → IsException code flags access exception → ResumesFrom p resumption c.frame acts saved
    → HasRule (raise program (exec program zero) exception resumption c)
    → AreListable program c.store.vectored → (here : ℕ) → place_of saved ≤ here
    → ShowsOrAsks t fs program p q (arrived t fs (raised t s code flags access saved))
    (raise_event exception ∷ []) (λ next. raise program next exception resumption c) c.events
    (turns_left c) here (live_from (context_of saved) is)

-- and a local unwind does what linear code does
abbrev pub LocalUnwindsAreShown : Type 0
LocalUnwindsAreShown =
    (t : Functions) (fs : List Funclet) (program : LinearProgram) (p : ImagePlan) (q : Sites)
    → IsProgramImage t fs program p q → FlagsFit program
    → (s : State) (saved : Cpu) (is : List StackItem) (acts : List Activation) (c : Configuration)
    → AsksHost t fs program p s saved is (Waits c.frame ∷ c.below) acts
    (host_list p c.store)
    → IsMachineMemory t fs program p q s.memory c.store.memory
    → c.store.activations ≡ locals_of acts
    → (frame address label : ℕ) → frame < 2 ^ 64 → address < 2 ^ 64
    → Aimed t fs program p (length c.below) label frame address (context_of saved) is
    (Waits c.frame ∷ c.below)
    → HasRule (local_unwind program (exec program zero) label c)
    → NoneLanded (Waits c.frame ∷ c.below)
    → Shows t fs program p q (arrived t fs (unwound_locally t s frame address saved)) []
    (λ next. local_unwind program next label c) c.events (turns_left c)
    (live_from (context_of saved) is)
