-- What asking the vectored handlers comes to, against linear code.
--
-- The main definitions: `IsAsking`, `HandlerBegins`, `SearchFollows`, `AskTurns`.
use Rattle.std.specs.Prelude.{◌≡◌, ◌⊎◌, ℕ, ◌+◌, ◌^◌, ◌<◌, ◌≤◌, List, [], ◌∷◌, slice_get, Some, None, Ok}
use Rattle.x64_instr.specs.declared.register.Reg.TheVariants.{Rcx, Rsp}
use Rattle.x64_machine.specs.Contexts.{context_of}
use Rattle.x64_machine.specs.Effect.{State, register}
use Rattle.virtual_unwind.specs.Contexts.{rsp}
use Rattle.virtual_unwind.specs.Undone.{word}
use Rattle.virtual_unwind.specs.CallerOf.{Functions}
use Rattle.seh_records.specs.declared.dispatch.Kind.TheVariants.{Vectored}
use Rattle.seh_records.specs.declared.dispatch.DispatchRecord.{DispatchRecord}
use Rattle.seh_records.specs.declared.layout.TheConstants.{POINTERS_AT}
use Rattle.seh_records.specs.Record.{placed}
use Rattle.seh_walk.specs.Walk.{vectored_return}
use Rattle.host_model.specs.declared.funclet.Funclet.{Funclet}
use Rattle.host_model.specs.Turns.{Continues}
use Rattle.host_model.specs.Dispatch.{asks_on, searching, searches_on}
use Rattle.source_meaning.specs.State.{Exception}
use Rattle.linear_code.specs.Program.{LinearProgram}
use Rattle.linear_machine.specs.Frames.{Resumption, VectoredAt, Waits, Searches, Configuration, Next}
use Rattle.linear_machine.specs.Regions.{handlers}
use Rattle.linear_machine.specs.Searching.{ask_vectored, ask_from, search}
use Rattle.match_stack.specs.Stack.{StackItem, Searching}
use Rattle.match_stack.specs.WalkLaws.{context_below}
use Rattle.match_stack.specs.ImagePlan.{ImagePlan, Gives}
use Rattle.match_stack.specs.ItemMatches.{Activation, record_room, HasException, ResumesFrom}
use Rattle.match_stack.specs.StackRecords.{On, RecordHasRoom, IsUntouched}
use Rattle.match_stack.specs.DispatchStates.{IsWellFormed, host_list}
use Rattle.match_stack.specs.TurnLaws.{IsSearching}

-- name thunks are at addresses of 64 bits
abbrev pub HandlersAreSmall : ImagePlan → Type 0
HandlersAreSmall p = (f : ℕ) → p.handler f < 2 ^ 64

module _ (t : Functions) (fs : List Funclet) (program : LinearProgram) (p : ImagePlan) where
  -- a record represents the exception of a body that waits, and the vectored handlers are asked
  -- from a place of their list on
  pub record IsAsking (s : State) (at : ℕ) (r : DispatchRecord) (is : List StackItem)
      (acts : List Activation) (exception : Exception) (place : ℕ) (c : Configuration) : Type 0
    where
      pub gives : Gives t fs program p
      pub well_formed : IsWellFormed (host_list p c.store) s
      pub handlers : HandlersAreSmall p
      pub on : On t fs program p s.memory (context_of r.saved) is (Waits c.frame ∷ c.below) acts
      pub kind : r.kind ≡ Vectored
      pub room : RecordHasRoom s.memory at r (rsp (context_of r.saved))
      pub carries : HasException t fs program p r exception
      pub row : r.row ≡ place
      pub walk : r.walk ≡ context_of r.saved
      pub near : rsp (context_of r.saved) ≤ at + record_room

  -- the one at that place is called: RCX is the address of EXCEPTION_POINTERS in the record above
  -- its return address, from which the list is there, with the search that waits
  pub record HandlerBegins (s : State) (at : ℕ) (r : DispatchRecord) (is : List StackItem)
      (acts : List Activation) (exception : Exception) (resumption : Resumption) (place : ℕ)
      (c : Configuration) : Type 0 where
    pub handler : ℕ
    pub listed : slice_get c.store.vectored place ≡ Some handler
    pub state : State
    pub turns : asks_on t s at r ≡ Continues state []
    pub goes : (next : Next) → ask_from program next place exception resumption c
        ≡ ask_vectored program next handler place exception resumption c
    pub rip : state.cpu.rip ≡ p.handler handler
    pub pointers : register state.cpu Rcx ≡ at + POINTERS_AT
    pub stack : register state.cpu Rsp + 8 ≡ at
    pub returns : word state.memory (register state.cpu Rsp) ≡ Ok vectored_return
    pub on : (others : List ℕ) → On t fs program p state.memory
        (context_below vectored_return at others) (Searching r ∷ is)
        (Searches exception resumption (VectoredAt place) ∷ Waits c.frame ∷ c.below) acts
    pub well_formed : IsWellFormed (host_list p c.store) state
    pub untouched : IsUntouched s.memory state.memory

  -- there is none: the search begins, from the innermost frame on
  pub record SearchFollows (s : State) (at : ℕ) (r : DispatchRecord) (is : List StackItem)
      (acts : List Activation) (exception : Exception) (resumption : Resumption) (place : ℕ)
      (c : Configuration) : Type 0 where
    pub turns : asks_on t s at r
        ≡ searches_on t (record s { memory = placed s.memory at (searching r) }) at (searching r)
    pub goes : (next : Next) → ask_from program next place exception resumption c
        ≡ search program next (handlers program (Waits c.frame ∷ c.below) None) exception
        resumption c
    pub searches : IsSearching t fs program p
        (record s { memory = placed s.memory at (searching r) }) at (searching r) is acts exception
        (handlers program (Waits c.frame ∷ c.below) None) c

-- the next one is asked, or the search begins
abbrev pub AskTurns : Type 0
AskTurns =
    (t : Functions) (fs : List Funclet) (program : LinearProgram) (p : ImagePlan) (s : State)
    (at : ℕ)
    (r : DispatchRecord) (is : List StackItem) (acts : List Activation) (exception : Exception)
    (resumption : Resumption) (place : ℕ) (c : Configuration)
    → IsAsking t fs program p s at r is acts exception place c
    → ResumesFrom p resumption c.frame acts r.saved
    → HandlerBegins t fs program p s at r is acts exception resumption place c
    ⊎ SearchFollows t fs program p s at r is acts exception resumption place c
