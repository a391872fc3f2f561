-- Where a search or an unwinding of the dispatcher begins, or continues, in the list of what waits.
use Rattle.std.specs.Prelude.{◌≡◌, ℕ, ◌+◌, ◌^◌, ◌<◌, ◌≤◌, Bool, ◌==◌, List, ◌∷◌, Option, Some, None}
use Rattle.seh_num.specs.declared.event.Code.{Code}
use Rattle.seh_num.specs.declared.event.Event.{Event}
use Rattle.x64_instr.specs.declared.register.Reg.TheVariants.{Rsp}
use Rattle.x64_machine.specs.declared.cpu.Cpu.{Cpu}
use Rattle.x64_machine.specs.Contexts.{context_of}
use Rattle.x64_machine.specs.Effect.{State, register}
use Rattle.virtual_unwind.specs.Contexts.{rsp}
use Rattle.virtual_unwind.specs.CallerOf.{Functions}
use Rattle.seh_records.specs.declared.dispatch.Kind.TheVariants.{Vectored}
use Rattle.seh_records.specs.declared.dispatch.DispatchRecord.{DispatchRecord}
use Rattle.seh_records.specs.declared.layout.TheConstants.{RECORD_SIZE}
use Rattle.seh_records.specs.Record.{placed, misplaced}
use Rattle.seh_records.specs.Laws.{AllSmall}
use Rattle.host_model.specs.declared.funclet.Funclet.{Funclet}
use Rattle.host_model.specs.Turns.{with_event}
use Rattle.host_model.specs.Dispatch.{place_of, parameters, new_record, raised, accepting, accepted, again, asks_on, raised_again, to_target, unwound_locally, asked_row, jumping, unwinds_on}
use Rattle.source_meaning.specs.State.{Exception}
use Rattle.source_meaning.specs.Raises.{noncontinuable, raise_event}
use Rattle.linear_code.specs.declared.program.Region.{Region}
use Rattle.linear_code.specs.Program.{LinearProgram}
use Rattle.linear_machine.specs.Frames.{Frame, Handler, Target, Resumption, FilterOf, Item, Waits, Searches, Unwinds, Store, Configuration}
use Rattle.linear_machine.specs.Searching.{target_of}
use Rattle.match_stack.specs.Stack.{StackItem, Searching, Unwinding}
use Rattle.match_stack.specs.ImagePlan.{ImagePlan, Gives}
use Rattle.match_stack.specs.ItemMatches.{Activation, Aimed}
use Rattle.match_stack.specs.StackRecords.{On}
use Rattle.match_stack.specs.DispatchStates.{IsWellFormed, host_list}
use Rattle.match_stack.specs.UnwindOutcomes.{Unwound}
use Rattle.match_stack.specs.TurnLaws.{IsSearching, IsUnwinding}
use Rattle.match_stack.specs.AskLaws.{HandlersAreSmall, IsAsking}

-- the same registers, and a record placed
abbrev pub placed_in : State → ℕ → DispatchRecord → State
placed_in s at r = record s { memory = placed s.memory at r }

-- what is to be unwound of a body on top of what waits, or of a list with regions left
abbrev pub from_body : Target → Frame → List Item → List Activation → Store → List Event → Unwound
from_body target f below acts source shown =
    record {
      target = target;
      items = Waits f ∷ below;
      left = None;
      acts = acts;
      source = source;
      shown = shown;
    }

-- a body asks the dispatcher, which saves this state of it: there is room below for a record, whose
-- place is a multiple of 16
pub record AsksHost (t : Functions) (fs : List Funclet) (program : LinearProgram) (p : ImagePlan)
    (s : State) (saved : Cpu) (is : List StackItem) (items : List Item) (acts : List Activation)
    (handlers : List ℕ) : Type 0 where
  pub gives : Gives t fs program p
  pub well_formed : IsWellFormed handlers s
  pub well_formed_saved : IsWellFormed handlers (record s { cpu = saved })
  pub on : On t fs program p s.memory (context_of saved) is items acts
  pub low : RECORD_SIZE + 15 ≤ register saved Rsp
  pub room : misplaced s.memory (place_of saved) ≡ None

-- ---- raises

-- what is raised is the exception
pub record IsException (code : Code) (flags : ℕ) (access : Option (Bool × ℕ))
    (exception : Exception) : Type 0 where
  pub same_code : code.0 ≡ exception.code
  pub same_flag : (flags == 1) ≡ exception.flag
  pub same_access : access ≡ exception.access
  pub code_small : code.0 < 2 ^ 32
  pub one_flag : flags < 2
  pub access_small : AllSmall (parameters access)

-- the event, and the first vectored handler is asked, if there is one
pub record RaisesAs (t : Functions) (fs : List Funclet) (program : LinearProgram) (p : ImagePlan)
    (s : State) (code : Code) (flags : ℕ) (access : Option (Bool × ℕ)) (saved : Cpu)
    (is : List StackItem) (acts : List Activation) (exception : Exception)
    (c : Configuration) : Type 0 where
  pub turns : raised t s code flags access saved
      ≡ with_event (raise_event exception)
      (asks_on t s (place_of saved) (new_record Vectored code flags access saved))
  pub asking : IsAsking t fs program p s (place_of saved)
      (new_record Vectored code flags access saved) is acts exception 0 c

abbrev pub RaiseAsks : Type 0
RaiseAsks =
    (t : Functions) (fs : List Funclet) (program : LinearProgram) (p : ImagePlan) (s : State)
    (code : Code) (flags : ℕ) (access : Option (Bool × ℕ)) (saved : Cpu) (is : List StackItem)
    (acts : List Activation) (exception : Exception) (c : Configuration)
    → HandlersAreSmall p
    → AsksHost t fs program p s saved is (Waits c.frame ∷ c.below) acts (host_list p c.store)
    → IsException code flags access exception
    → RaisesAs t fs program p s code flags access saved is acts exception c

-- ---- local unwinds

pub record UnwindsLocallyAs (t : Functions) (fs : List Funclet) (program : LinearProgram)
    (p : ImagePlan)
    (s : State) (frame address : ℕ) (saved : Cpu) (is : List StackItem) (w : Unwound) : Type 0 where
  pub turns : unwound_locally t s frame address saved
      ≡ unwinds_on t (placed_in s (place_of saved) (to_target saved frame address)) (place_of saved)
      (to_target saved frame address)
  pub unwinding : IsUnwinding t fs program p
      (placed_in s (place_of saved) (to_target saved frame address)) (place_of saved)
      (to_target saved frame address) is w

-- to a label of a body of the list
abbrev pub LocalUnwindUnwinds : Type 0
LocalUnwindUnwinds =
    (t : Functions) (fs : List Funclet) (program : LinearProgram) (p : ImagePlan) (s : State)
    (frame address : ℕ) (saved : Cpu) (is : List StackItem) (acts : List Activation)
    (depth label : ℕ) (f : Frame) (below : List Item) (source : Store) (shown : List Event)
    → AsksHost t fs program p s saved is (Waits f ∷ below) acts (host_list p source)
    → frame < 2 ^ 64 → address < 2 ^ 64
    → Aimed t fs program p depth label frame address (context_of saved) is (Waits f ∷ below)
    → UnwindsLocallyAs t fs program p s frame address saved is
    (from_body (record { depth = depth; label = label; code = None; held = f.held }) f below
    acts source shown)

-- ---- suspended searches

-- at the return address of a filter
pub record SearchIsAnswered (t : Functions) (fs : List Funclet) (program : LinearProgram)
    (p : ImagePlan)
    (s : State) (r : DispatchRecord) (is : List StackItem) (acts : List Activation)
    (exception : Exception) (resumption : Resumption) (asked : Handler) (rest : List Handler)
    (c : Configuration) : Type 0 where
  pub gives : Gives t fs program p
  pub well_formed : IsWellFormed (host_list p c.store) s
  pub handlers : HandlersAreSmall p
  pub on : On t fs program p s.memory (context_of s.cpu) (Searching r ∷ is)
      (Searches exception resumption (FilterOf asked rest) ∷ Waits c.frame ∷ c.below) acts

-- a handler takes over: its record becomes that of an unwinding
pub record AcceptsAs (t : Functions) (fs : List Funclet) (program : LinearProgram) (p : ImagePlan)
    (s : State) (at : ℕ) (r : DispatchRecord) (frame address : ℕ) (is : List StackItem)
    (w : Unwound) : Type 0 where
  pub turns : accepted t s at r frame address
      ≡ unwinds_on t (placed_in s at (accepting r frame address)) at (accepting r frame address)
  pub unwinding : IsUnwinding t fs program p (placed_in s at (accepting r frame address)) at
      (accepting r frame address) is w

abbrev pub AcceptanceUnwinds : Type 0
AcceptanceUnwinds =
    (t : Functions) (fs : List Funclet) (program : LinearProgram) (p : ImagePlan) (s : State)
    (at : ℕ)
    (r : DispatchRecord) (frame address : ℕ) (is : List StackItem) (acts : List Activation)
    (exception : Exception) (found : List Handler) (h : Handler) (c : Configuration)
    → IsSearching t fs program p s at r is acts exception found c → frame < 2 ^ 64
    → address < 2 ^ 64 → Aimed t fs program p h.depth h.target frame address (context_of r.saved) is
    (Waits c.frame ∷ c.below)
    → AcceptsAs t fs program p s at r frame address is
    (from_body (target_of h exception.code c.frame.held) c.frame c.below acts c.store c.events)

-- 0 asks the handlers that are left; above 0 the asked one takes over; below 0 a noncontinuable
-- exception is raised anew, and the first vectored handler is asked
pub record AnswersAs (t : Functions) (fs : List Funclet) (program : LinearProgram) (p : ImagePlan)
    (s : State) (r : DispatchRecord) (is : List StackItem) (acts : List Activation)
    (exception : Exception) (asked : Handler) (rest : List Handler)
    (c : Configuration) : Type 0 where
  pub next : IsSearching t fs program p s (rsp (context_of s.cpu)) r is acts exception rest c
  pub address : ℕ
  pub takes_over : jumping t s (rsp (context_of s.cpu)) r (asked_row t r)
      ≡ accepted t s (rsp (context_of s.cpu)) r r.frame address
  pub frame_small : r.frame < 2 ^ 64
  pub address_small : address < 2 ^ 64
  pub aimed : Aimed t fs program p asked.depth asked.target r.frame address (context_of r.saved) is
      (Waits c.frame ∷ c.below)
  pub raises : raised_again t s (rsp (context_of s.cpu)) r
      ≡ with_event (raise_event noncontinuable)
      (asks_on t s (rsp (context_of s.cpu)) (again r))
  pub asks_anew : IsAsking t fs program p s (rsp (context_of s.cpu)) (again r) is acts
      noncontinuable 0 c

abbrev pub AnswersContinue : Type 0
AnswersContinue =
    (t : Functions) (fs : List Funclet) (program : LinearProgram) (p : ImagePlan) (s : State)
    (r : DispatchRecord) (is : List StackItem) (acts : List Activation) (exception : Exception)
    (resumption : Resumption) (asked : Handler) (rest : List Handler) (c : Configuration)
    → SearchIsAnswered t fs program p s r is acts exception resumption asked rest c
    → AnswersAs t fs program p s r is acts exception asked rest c

-- ---- suspended unwindings

-- at the return address of a `__finally` block the unwinding continues, with the regions that are
-- left
abbrev pub FinallyReturnsUnwind : Type 0
FinallyReturnsUnwind =
    (t : Functions) (fs : List Funclet) (program : LinearProgram) (p : ImagePlan) (s : State)
    (r : DispatchRecord) (is : List StackItem) (acts : List Activation) (rest : List Region)
    (target : Target) (items : List Item) (source : Store) (shown : List Event)
    → Gives t fs program p → IsWellFormed (host_list p source) s
    → On t fs program p s.memory (context_of s.cpu) (Unwinding r ∷ is)
    (Unwinds rest target ∷ items) acts
    → IsUnwinding t fs program p s (rsp (context_of s.cpu)) r is
    (record {
      target = target;
      items = items;
      left = Some rest;
      acts = acts;
      source = source;
      shown = shown;
    })
