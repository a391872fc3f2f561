-- The answer of a vectored handler, at the host's return address: what the host's turn comes to.
--
-- `HandlerHasAnswered`, `VectoredReturns`: a handler has returned, and its record is on top of the
-- list. By its answer the saved state continues, or the next one is asked. Where it answers that a
-- noncontinuable exception is to be continued, that is raised as an exception of its own.
use Rattle.std.specs.Prelude.{◌≡◌, ◌⊎◌, ℕ, ◌+◌, ◌^◌, ◌<◌, List, [], ◌∷◌}
use Rattle.x64_instr.specs.declared.register.Reg.TheVariants.{Rsp}
use Rattle.x64_machine.specs.Contexts.{context_of}
use Rattle.x64_machine.specs.Effect.{State, register}
use Rattle.virtual_unwind.specs.Contexts.{rsp}
use Rattle.virtual_unwind.specs.CallerOf.{Functions}
use Rattle.seh_records.specs.declared.dispatch.DispatchRecord.{DispatchRecord}
use Rattle.seh_records.specs.Record.{fetched}
use Rattle.host_model.specs.declared.funclet.Funclet.{Funclet}
use Rattle.host_model.specs.Turns.{Turn, Continues, with_event}
use Rattle.host_model.specs.Dispatch.{asks_on, again, restored, vectored_returned, eax}
use Rattle.source_meaning.specs.State.{Exception}
use Rattle.source_meaning.specs.Raises.{noncontinuable, raise_event}
use Rattle.linear_code.specs.Program.{LinearProgram}
use Rattle.linear_machine.specs.Frames.{Resumption, VectoredAt, Waits, Searches, Configuration, Seen, Next}
use Rattle.linear_machine.specs.Searching.{ask_from, raise, resumed, vectored_answered}
use Rattle.match_stack.specs.Stack.{StackItem, Searching}
use Rattle.match_stack.specs.ImagePlan.{ImagePlan, Gives}
use Rattle.match_stack.specs.ItemMatches.{Activation, ResumesFrom}
use Rattle.match_stack.specs.StackRecords.{On}
use Rattle.match_stack.specs.DispatchStates.{IsWellFormed, host_list}
use Rattle.match_stack.specs.AskLaws.{HandlersAreSmall, IsAsking}

-- the record is at RSP
abbrev pub vectored_turn : Functions → State → Turn
vectored_turn t s =
    vectored_returned t s (register s.cpu Rsp) (fetched s.memory (register s.cpu Rsp))

-- the record of the handler at the next place
abbrev pub at_next : DispatchRecord → DispatchRecord
at_next r = record r { row = r.row + 1 }

-- linear code, whose handler has the same answer
abbrev pub linear_vectored : LinearProgram → State → Exception → Resumption → ℕ → Configuration
    → Next → Seen
linear_vectored program s exception resumption place c next =
    vectored_answered program next (eax s) place exception resumption c

module _ (t : Functions) (fs : List Funclet) (program : LinearProgram) (p : ImagePlan) where
  -- at the return address of a vectored handler
  pub record HandlerHasAnswered (s : State) (r : DispatchRecord) (is : List StackItem)
      (acts : List Activation) (exception : Exception) (resumption : Resumption) (place : ℕ)
      (c : Configuration) : Type 0 where
    pub gives : Gives t fs program p
    pub well_formed : IsWellFormed (host_list p c.store) s
    pub handlers : HandlersAreSmall p
    pub small : place + 1 < 2 ^ 64
    pub on : On t fs program p s.memory (context_of s.cpu) (Searching r ∷ is)
        (Searches exception resumption (VectoredAt place) ∷ Waits c.frame ∷ c.below) acts

  -- 0 or above: the next one is asked, in the list as it stands
  pub record AsksOn (s : State) (r : DispatchRecord) (is : List StackItem)
      (acts : List Activation) (exception : Exception) (resumption : Resumption) (place : ℕ)
      (c : Configuration) : Type 0 where
    pub turns : vectored_turn t s ≡ asks_on t s (rsp (context_of s.cpu)) (at_next r)
    pub goes : (next : Next) → linear_vectored program s exception resumption place c next
        ≡ ask_from program next (place + 1) exception resumption c
    pub asking : IsAsking t fs program p s (rsp (context_of s.cpu)) (at_next r) is acts exception
        (place + 1) c

  -- below 0: the exception is continued, in the saved state, in which the body is that raised it
  pub record ContinuesSaved (s : State) (r : DispatchRecord) (is : List StackItem)
      (acts : List Activation) (exception : Exception) (resumption : Resumption) (place : ℕ)
      (c : Configuration) : Type 0 where
    pub turns : vectored_turn t s ≡ Continues (restored s r) []
    pub goes : (next : Next) → linear_vectored program s exception resumption place c next
        ≡ next (resumed resumption c)
    pub on : On t fs program p s.memory (context_of r.saved) is (Waits c.frame ∷ c.below) acts
    pub well_formed : IsWellFormed (host_list p c.store) (restored s r)

  -- or C0000025 is raised, where it is noncontinuable
  pub record AsksAnew (s : State) (r : DispatchRecord) (is : List StackItem)
      (acts : List Activation) (exception : Exception) (resumption : Resumption) (place : ℕ)
      (c : Configuration) : Type 0 where
    pub turns : vectored_turn t s ≡ with_event (raise_event noncontinuable)
        (asks_on t s (rsp (context_of s.cpu)) (again r))
    pub goes : (next : Next) → linear_vectored program s exception resumption place c next
        ≡ raise program next noncontinuable resumption c
    pub asking : IsAsking t fs program p s (rsp (context_of s.cpu)) (again r) is acts noncontinuable
        0 c

  pub record HandlerReturned (s : State) (r : DispatchRecord) (is : List StackItem)
      (acts : List Activation) (exception : Exception) (resumption : Resumption) (place : ℕ)
      (c : Configuration) : Type 0 where
    pub resumes : ResumesFrom p resumption c.frame acts r.saved
    pub by_answer : AsksOn s r is acts exception resumption place c
        ⊎ (ContinuesSaved s r is acts exception resumption place c
        ⊎ AsksAnew s r is acts exception resumption place c)

abbrev pub VectoredReturns : Type 0
VectoredReturns =
    (t : Functions) (fs : List Funclet) (program : LinearProgram) (p : ImagePlan) (s : State)
    (r : DispatchRecord) (is : List StackItem) (acts : List Activation) (exception : Exception)
    (resumption : Resumption) (place : ℕ) (c : Configuration)
    → HandlerHasAnswered t fs program p s r is acts exception resumption place c
    → HandlerReturned t fs program p s r is acts exception resumption place c
