-- The host's turn at the return address of a filter, against the end of the filter in linear code.
use Rattle.std.specs.Prelude.{◌≡◌, ◌⊎◌, ℕ, ◌^◌, ◌<◌, List, [], ◌∷◌, ◌++◌}
use Rattle.seh_num.specs.declared.width.Width.TheVariants.{W32}
use Rattle.seh_num.specs.declared.event.Event.TheVariants as events
use Rattle.seh_num.specs.Widths.{signed}
use Rattle.x64_instr.specs.declared.register.Reg.TheVariants.{Rsp}
use Rattle.x64_machine.specs.Contexts.{context_of}
use Rattle.x64_machine.specs.Effect.{State, register}
use Rattle.virtual_unwind.specs.Contexts.{rsp}
use Rattle.virtual_unwind.specs.CallerOf.{Functions}
use Rattle.seh_records.specs.declared.dispatch.DispatchRecord.{DispatchRecord}
use Rattle.seh_records.specs.Record.{fetched}
use Rattle.host_model.specs.declared.funclet.Funclet.{Funclet}
use Rattle.host_model.specs.Turns.{Turn, Continues, with_event}
use Rattle.host_model.specs.Dispatch.{eax, filter_returned, searches_on, accepted, restored, raised_again}
use Rattle.source_meaning.specs.State.{Exception}
use Rattle.source_meaning.specs.Raises.{noncontinuable}
use Rattle.linear_code.specs.Program.{LinearProgram}
use Rattle.linear_machine.specs.Frames.{Handler, Resumption, FilterOf, Waits, Searches, Configuration, Seen, Next}
use Rattle.linear_machine.specs.Searching.{search, accept, raise, resumed, answer}
use Rattle.match_stack.specs.Stack.{StackItem}
use Rattle.match_stack.specs.ImagePlan.{ImagePlan}
use Rattle.match_stack.specs.ItemMatches.{Activation, Aimed, ResumesFrom}
use Rattle.match_stack.specs.StackRecords.{On}
use Rattle.match_stack.specs.DispatchStates.{IsWellFormed, host_list}
use Rattle.match_stack.specs.DispatchSteps.{SearchIsAnswered}

-- the record is at RSP
abbrev pub filter_turn : Functions → State → Turn
filter_turn t s = filter_returned t s (register s.cpu Rsp) (fetched s.memory (register s.cpu Rsp))

-- the answer is EAX, which is shown
abbrev pub with_answer : State → Turn → Turn
with_answer s turn = with_event (events.Answer (signed W32 (eax s))) turn

abbrev pub answered : State → Configuration → Configuration
answered s c =
    record {
      frame = c.frame;
      below = c.below;
      store = c.store;
      events = c.events ++ events.Answer (signed W32 (eax s)) ∷ [];
    }

-- linear code, whose filter has the same answer
abbrev pub linear_answer : LinearProgram → State → Exception → Resumption → Handler → List Handler
    → Configuration → Next → Seen
linear_answer program s exception resumption asked rest c next =
    answer program next (eax s) (Searches exception resumption (FilterOf asked rest) ∷ Waits c.frame
    ∷ c.below)
    c.events c.store

-- 0: the next handler
pub record AsksTheNext (t : Functions) (program : LinearProgram) (s : State) (r : DispatchRecord)
    (exception : Exception) (resumption : Resumption) (asked : Handler) (rest : List Handler)
    (c : Configuration) : Type 0 where
  pub turns : filter_turn t s ≡ with_answer s (searches_on t s (rsp (context_of s.cpu)) r)
  pub goes : (next : Next) → linear_answer program s exception resumption asked rest c next
      ≡ search program next rest exception resumption (answered s c)

-- above 0: the asked handler takes over, in its frame
pub record AskedTakesOver (t : Functions) (fs : List Funclet) (program : LinearProgram)
    (p : ImagePlan)
    (s : State) (r : DispatchRecord) (is : List StackItem) (exception : Exception)
    (resumption : Resumption) (asked : Handler) (rest : List Handler)
    (c : Configuration) : Type 0 where
  pub address : ℕ
  pub turns : filter_turn t s ≡ with_answer s (accepted t s
      (rsp (context_of s.cpu)) r r.frame address)
  pub goes : (next : Next) → linear_answer program s exception resumption asked rest c next
      ≡ accept program asked exception next (answered s c)
  pub frame_small : r.frame < 2 ^ 64
  pub address_small : address < 2 ^ 64
  pub aimed : Aimed t fs program p asked.depth asked.target r.frame address (context_of r.saved) is
      (Waits c.frame ∷ c.below)

-- below 0: the exception is continued, in the saved state, in which the body is that raised it
pub record ContinuesException (t : Functions) (fs : List Funclet) (program : LinearProgram)
    (p : ImagePlan)
    (s : State) (r : DispatchRecord) (is : List StackItem) (acts : List Activation)
    (exception : Exception) (resumption : Resumption) (asked : Handler) (rest : List Handler)
    (c : Configuration) : Type 0 where
  pub turns : filter_turn t s ≡ with_answer s (Continues (restored s r) [])
  pub goes : (next : Next) → linear_answer program s exception resumption asked rest c next
      ≡ next (resumed resumption (answered s c))
  pub on : On t fs program p s.memory (context_of r.saved) is (Waits c.frame ∷ c.below) acts
  pub well_formed : IsWellFormed (host_list p c.store) (restored s r)
  pub resumes : ResumesFrom p resumption c.frame acts r.saved

-- or C0000025 is raised, where it is noncontinuable
pub record IsRaisedAnew (t : Functions) (program : LinearProgram) (s : State) (r : DispatchRecord)
    (exception : Exception) (resumption : Resumption) (asked : Handler) (rest : List Handler)
    (c : Configuration) : Type 0 where
  pub turns : filter_turn t s ≡ with_answer s (raised_again t s (rsp (context_of s.cpu)) r)
  pub goes : (next : Next) → linear_answer program s exception resumption asked rest c next
      ≡ raise program next noncontinuable resumption (answered s c)

abbrev pub FilterReturns : Type 0
FilterReturns =
    (t : Functions) (fs : List Funclet) (program : LinearProgram) (p : ImagePlan) (s : State)
    (r : DispatchRecord) (is : List StackItem) (acts : List Activation) (exception : Exception)
    (resumption : Resumption) (asked : Handler) (rest : List Handler) (c : Configuration)
    → SearchIsAnswered t fs program p s r is acts exception resumption asked rest c
    → AsksTheNext t program s r exception resumption asked rest c
    ⊎ (AskedTakesOver t fs program p s r is exception resumption asked rest c
    ⊎ (ContinuesException t fs program p s r is acts exception resumption asked rest c
    ⊎ IsRaisedAnew t program s r exception resumption asked rest c))
