-- What the host leaves in the registers of a body that continues.
use Rattle.std.specs.Prelude.{◌≡◌, ℕ, List, ◌∷◌, length}
use Rattle.flat_memory.specs.Memory.{Memory}
use Rattle.x64_machine.specs.declared.context.Context.{Context}
use Rattle.x64_machine.specs.Contexts.{context_of}
use Rattle.x64_machine.specs.Effect.{State}
use Rattle.virtual_unwind.specs.Contexts.{get}
use Rattle.virtual_unwind.specs.CallerOf.{Functions}
use Rattle.seh_records.specs.declared.dispatch.DispatchRecord.{DispatchRecord}
use Rattle.host_model.specs.declared.funclet.Funclet.{Funclet}
use Rattle.host_model.specs.Dispatch.{at_landing, restored}
use Rattle.linear_code.specs.Program.{LinearProgram}
use Rattle.linear_machine.specs.Frames.{Frame, Item, Waits}
use Rattle.match_stack.specs.Stack.{StackFrame, StackItem, Framed, Searching, Unwinding}
use Rattle.match_stack.specs.WalkLaws.{context_below}
use Rattle.match_stack.specs.ImagePlan.{ImagePlan}
use Rattle.match_stack.specs.ItemMatches.{Activation, HasActivation}
use Rattle.match_stack.specs.StackRecords.{On}

-- a context with another RIP
abbrev pub going_to : Context → ℕ → Context
going_to c rip = record { rip = rip; kept = c.kept }

-- where an unwinding lands, the nonvolatile registers are those that the walk has found for the
-- frame: so the list is there from the landing's own registers on
abbrev pub LandingHasRegisters : Type 0
LandingHasRegisters =
    (t : Functions) (fs : List Funclet) (program : LinearProgram) (p : ImagePlan) (s : State)
    (c : Context) (rax target : ℕ) (is : List StackItem) (items : List Item)
    (acts : List Activation)
    → length c.kept ≡ 9 → On t fs program p s.memory c is items acts
    → On t fs program p (at_landing s c rax target).memory
    (going_to (context_of (at_landing s c rax target).cpu) c.rip) is items acts

-- and the body of that frame holds its locals in them and in its slots
abbrev pub LandedBodyHoldsLocals : Type 0
LandedBodyHoldsLocals =
    (t : Functions) (fs : List Funclet) (program : LinearProgram) (p : ImagePlan) (s : State)
    (c : Context) (rax target : ℕ) (f : StackFrame) (is : List StackItem) (b : Frame)
    (below : List Item) (acts : List Activation)
    → length c.kept ≡ 9
    → On t fs program p s.memory c (Framed f ∷ is) (Waits b ∷ below) acts
    → HasActivation s.memory (get (context_of (at_landing s c rax target).cpu)) (p.register b.body)
    (p.layout b.body) (get (context_of (at_landing s c rax target).cpu) 4) f.slots b.activation acts
    b.body

-- where an exception is continued, they are those that were saved
abbrev pub RestoredHasRegisters : Type 0
RestoredHasRegisters =
    (s : State) (r : DispatchRecord) → context_of (restored s r).cpu ≡ context_of r.saved

-- a suspended search or unwinding rests on RIP and RSP alone: whatever the other registers are when
-- its funclet returns
abbrev pub RecordsRestOnStack : Type 0
RecordsRestOnStack =
    (t : Functions) (fs : List Funclet) (program : LinearProgram) (p : ImagePlan) (m : Memory)
    (rip sp : ℕ) (others others' : List ℕ) (r : DispatchRecord) (is : List StackItem)
    (items : List Item) (acts : List Activation)
    → (On t fs program p m (context_below rip sp others) (Searching r ∷ is) items acts
    → On t fs program p m (context_below rip sp others') (Searching r ∷ is) items acts)
    × (On t fs program p m (context_below rip sp others) (Unwinding r ∷ is) items acts
    → On t fs program p m (context_below rip sp others') (Unwinding r ∷ is) items acts)
