-- What holds of every list and record.
use Rattle.std.specs.Prelude.{◌≡◌, ℕ, ◌^◌, ◌<◌, ◌≤◌, true, List, [], ◌∷◌, Ok}
use Rattle.host_layout.specs.declared.range.TheConstants.{STACK_END}
use Rattle.flat_memory.specs.Memory.{Memory}
use Rattle.x64_machine.specs.declared.context.Context.{Context}
use Rattle.x64_machine.specs.Contexts.{context_of}
use Rattle.virtual_unwind.specs.Contexts.{rsp}
use Rattle.virtual_unwind.specs.Undone.{word}
use Rattle.virtual_unwind.specs.CallerOf.{Functions}
use Rattle.seh_records.specs.declared.dispatch.DispatchRecord.{DispatchRecord}
use Rattle.seh_records.specs.Record.{placed, return_address_at}
use Rattle.seh_walk.specs.Walk.{is_unwinding, finally_return}
use Rattle.host_model.specs.declared.funclet.Funclet.{Funclet}
use Rattle.source_meaning.specs.State.{Exception}
use Rattle.linear_code.specs.declared.program.Region.{Region}
use Rattle.linear_code.specs.Program.{LinearProgram}
use Rattle.linear_machine.specs.Frames.{Asked, Target, Resumption, Item, Searches, Unwinds}
use Rattle.match_stack.specs.Stack.{is_asking, answer_return, StackItem, Searching, Unwinding}
use Rattle.match_stack.specs.WalkLaws.{context_below}
use Rattle.match_stack.specs.ImagePlan.{ImagePlan}
use Rattle.match_stack.specs.ItemMatches.{Activation, SearchWaits, UnwindingWaits}
use Rattle.match_stack.specs.StackRecords.{IsData, On, RecordHasRoom, IsUntouched, pushed}

-- a record below the list leaves it as it is
abbrev pub RecordLeavesTheList : Type 0
RecordLeavesTheList =
    (t : Functions) (fs : List Funclet) (program : LinearProgram) (p : ImagePlan) (m : Memory)
    (at : ℕ)
    (r : DispatchRecord) (c : Context) (is : List StackItem) (items : List Item)
    (acts : List Activation)
    → On t fs program p m c is items acts → RecordHasRoom m at r (rsp c)
    → On t fs program p (placed m at r) c is items acts

-- a search that waits, at the return address of what it has asked
abbrev pub SearchIsOneMore : Type 0
SearchIsOneMore =
    (t : Functions) (fs : List Funclet) (program : LinearProgram) (p : ImagePlan) (m : Memory)
    (at : ℕ)
    (r : DispatchRecord) (is : List StackItem) (items : List Item) (acts : List Activation)
    (exception : Exception) (resumption : Resumption) (asked : Asked) (others : List ℕ)
    → On t fs program p m (context_of r.saved) is items acts → is_asking r.kind ≡ true
    → RecordHasRoom m at r (rsp (context_of r.saved))
    → SearchWaits t fs program p m (context_below (answer_return r.kind) at []) r exception
    resumption asked is items acts
    → On t fs program p (pushed m at r (answer_return r.kind))
    (context_below (answer_return r.kind) at others) (Searching r ∷ is)
    (Searches exception resumption asked ∷ items) acts

-- an unwinding that waits, at the return address of its `__finally` block
abbrev pub UnwindingIsOneMore : Type 0
UnwindingIsOneMore =
    (t : Functions) (fs : List Funclet) (program : LinearProgram) (p : ImagePlan) (m : Memory)
    (at : ℕ)
    (r : DispatchRecord) (is : List StackItem) (items : List Item) (acts : List Activation)
    (rest : List Region) (target : Target) (others : List ℕ)
    → On t fs program p m r.walk is items acts → is_unwinding r.kind ≡ true
    → RecordHasRoom m at r (rsp r.walk)
    → UnwindingWaits t fs program p m
    (context_below finally_return at []) r rest target is items acts
    → On t fs program p (pushed m at r finally_return) (context_below finally_return at others)
    (Unwinding r ∷ is) (Unwinds rest target ∷ items) acts

-- a record leaves all that lies above it
abbrev pub PushedRecordLeavesOthers : Type 0
PushedRecordLeavesOthers =
    (m : Memory) (at : ℕ) (r : DispatchRecord) (back above : ℕ) → IsData m
    → RecordHasRoom m at r above
    → above ≤ STACK_END → back < 2 ^ 64 → IsUntouched m (pushed m at r back)

-- the return address of its funclet is read below it
abbrev pub ReturnAddressIsPushed : Type 0
ReturnAddressIsPushed =
    (m : Memory) (at : ℕ) (r : DispatchRecord) (back above : ℕ) → IsData m
    → RecordHasRoom m at r above
    → back < 2 ^ 64 → word (pushed m at r back) (return_address_at at) ≡ Ok back
