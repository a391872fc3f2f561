-- What holds of every turn that searches or unwinds.
use Rattle.std.specs.Prelude.{◌≡◌, ◌⊎◌, ℕ, ◌+◌, ◌≤◌, true, List, ◌∷◌, length}
use Rattle.x64_machine.specs.Contexts.{context_of}
use Rattle.x64_machine.specs.Effect.{State}
use Rattle.virtual_unwind.specs.Contexts.{rsp}
use Rattle.virtual_unwind.specs.CallerOf.{Functions}
use Rattle.seh_records.specs.declared.dispatch.Kind.TheVariants.{Search}
use Rattle.seh_records.specs.declared.dispatch.DispatchRecord.{DispatchRecord}
use Rattle.seh_walk.specs.Walk.{is_unwinding}
use Rattle.host_model.specs.declared.funclet.Funclet.{Funclet}
use Rattle.host_model.specs.Funclets.{arrived}
use Rattle.host_model.specs.Dispatch.{searches_on, unwinds_on}
use Rattle.source_meaning.specs.State.{Exception}
use Rattle.linear_code.specs.Program.{LinearProgram}
use Rattle.linear_machine.specs.Frames.{Handler, Resumption, Waits, Configuration}
use Rattle.match_stack.specs.Stack.{StackItem}
use Rattle.match_stack.specs.ImagePlan.{ImagePlan, Gives}
use Rattle.match_stack.specs.ItemMatches.{Activation, HasSpace, below_end, record_room, IsAtRow, Onward, Aimed, HasException, HasPurpose, ResumesFrom}
use Rattle.match_stack.specs.StackRecords.{On, RecordHasRoom}
use Rattle.match_stack.specs.DispatchStates.{IsWellFormed, host_list}
use Rattle.match_stack.specs.SearchOutcomes.{FilterBegins, TakesOver, NobodyTakesOver}
use Rattle.match_stack.specs.UnwindOutcomes.{Unwound, BlockBegins, LandsThere}

-- a search's record represents the exception of a body that waits, and these handlers are still to
-- be asked
pub record IsSearching (t : Functions) (fs : List Funclet) (program : LinearProgram) (p : ImagePlan)
    (s : State) (at : ℕ) (r : DispatchRecord) (is : List StackItem) (acts : List Activation)
    (exception : Exception) (found : List Handler) (c : Configuration) : Type 0 where
  pub gives : Gives t fs program p
  pub well_formed : IsWellFormed (host_list p c.store) s
  pub on : On t fs program p s.memory (context_of r.saved) is (Waits c.frame ∷ c.below) acts
  pub kind : r.kind ≡ Search
  pub room : RecordHasRoom s.memory at r (rsp (context_of r.saved))
  pub carries : HasException t fs program p r exception
  pub onward : Onward t fs program p r.walk r.row found (context_of r.saved) is
      (Waits c.frame ∷ c.below)
  pub near : rsp (context_of r.saved) ≤ at + record_room

-- where the exception is continued, the body continues from the saved state
abbrev pub SearchTurns : Type 0
SearchTurns =
    (t : Functions) (fs : List Funclet) (program : LinearProgram) (p : ImagePlan) (s : State)
    (at : ℕ)
    (r : DispatchRecord) (is : List StackItem) (acts : List Activation)
    (exception : Exception) (resumption : Resumption) (found : List Handler) (c : Configuration)
    → IsSearching t fs program p s at r is acts exception found c
    → ResumesFrom p resumption c.frame acts r.saved
    → FilterBegins t fs program p s at r
    (arrived t fs (searches_on t s at r)) found exception resumption is acts c
    ⊎ (TakesOver t fs program p s at r
    (arrived t fs (searches_on t s at r)) found exception resumption (context_of r.saved) is c
    ⊎ NobodyTakesOver t fs program p (arrived t fs (searches_on t s at r)) found exception
    resumption c)

-- an unwinding's record represents a target of the list, from a row of its first body on
pub record IsUnwinding (t : Functions) (fs : List Funclet) (program : LinearProgram) (p : ImagePlan)
    (s : State) (at : ℕ) (r : DispatchRecord) (is : List StackItem) (w : Unwound) : Type 0 where
  pub gives : Gives t fs program p
  pub well_formed : IsWellFormed (host_list p w.source) s
  pub on : On t fs program p s.memory r.walk is w.items w.acts
  pub kind : is_unwinding r.kind ≡ true
  pub purpose : HasPurpose t fs program p w.target.code r
  pub room : RecordHasRoom s.memory at r (rsp r.walk)
  pub at_row : IsAtRow t fs program p r.row w.items w.left
  pub aimed : Aimed t fs program p w.target.depth w.target.label r.target_frame r.target r.walk is
      w.items
  pub space : HasSpace at (below_end + record_room) (length w.acts + w.target.held)

abbrev pub UnwindTurns : Type 0
UnwindTurns =
    (t : Functions) (fs : List Funclet) (program : LinearProgram) (p : ImagePlan) (s : State)
    (at : ℕ)
    (r : DispatchRecord) (is : List StackItem) (w : Unwound)
    → IsUnwinding t fs program p s at r is w
    → BlockBegins t fs program p s r (arrived t fs (unwinds_on t s at r)) w
    ⊎ LandsThere t fs program p s r (arrived t fs (unwinds_on t s at r)) w
