-- What a turn that searches comes to, against the search of linear code.
use Rattle.std.specs.Prelude.{◌≡◌, ℕ, ◌+◌, ◌%◌, ◌^◌, ◌<◌, List, [], ◌∷◌, Some}
use Rattle.seh_num.specs.declared.event.Event.TheVariants as events
use Rattle.seh_num.specs.declared.end.RunEnd.TheVariants as ends
use Rattle.x64_instr.specs.declared.register.Reg.TheVariants.{Rcx, Rsp}
use Rattle.x64_machine.specs.declared.context.Context.{Context}
use Rattle.x64_machine.specs.Effect.{State, register}
use Rattle.virtual_unwind.specs.CallerOf.{Functions, distance}
use Rattle.seh_records.specs.declared.dispatch.DispatchRecord.{DispatchRecord}
use Rattle.host_model.specs.declared.funclet.Funclet.{Funclet}
use Rattle.host_model.specs.Turns.{Turn, Continues, Ends}
use Rattle.host_model.specs.Funclets.{arrivals, arrived}
use Rattle.host_model.specs.Dispatch.{accepted}
use Rattle.source_meaning.specs.declared.ended.Ended.TheVariants.{Unhandled}
use Rattle.source_meaning.specs.State.{Exception}
use Rattle.seh_records.specs.declared.layout.TheConstants.{POINTERS_AT}
use Rattle.linear_code.specs.Program.{LinearProgram}
use Rattle.linear_machine.specs.Frames.{Handler, FilterOf, Resumption, Waits, Searches, Configuration, Finished, Next, deeper}
use Rattle.linear_machine.specs.Searching as linear
use Rattle.linear_machine.specs.Searching.{begin_filter, accept}
use Rattle.match_stack.specs.Stack.{StackItem, Searching}
use Rattle.match_stack.specs.ImagePlan.{ImagePlan}
use Rattle.match_stack.specs.ItemMatches.{Activation, Aimed}
use Rattle.match_stack.specs.StackRecords.{IsUntouched}
use Rattle.match_stack.specs.DispatchStates.{Arrives, host_list}

module _ (t : Functions) (fs : List Funclet) (program : LinearProgram) (p : ImagePlan) where
  -- the filter of the first handler begins, unless linear code is too deep; its EXCEPTION_POINTERS
  -- are in the record above its return address, with the state that was saved
  pub record FilterBegins (s : State) (at : ℕ) (r : DispatchRecord) (turn : Turn)
      (found : List Handler) (exception : Exception) (resumption : Resumption) (is : List StackItem)
      (acts : List Activation) (c : Configuration) : Type 0 where
    pub filter : ℕ
    pub handler : Handler
    pub asked : handler.filter ≡ Some filter
    pub rest : List Handler
    pub state : State
    pub turns : turn ≡ Continues state (events.Filter (filter + 1) ∷ [])
    pub goes : (next : Next) → linear.search program next found exception resumption c
        ≡ deeper 2 c.frame.held c.store c.events
        (next (begin_filter filter handler rest exception resumption c))
    pub arrives : Arrives t fs program p state filter handler.activation
        ((at + POINTERS_AT) % 2 ^ 64) (Searches exception resumption (FilterOf handler rest)
        ∷ Waits c.frame ∷ c.below) acts (host_list p c.store)
    pub named : arrivals state.cpu (distance t.base state.cpu.rip) 1 fs
        ≡ events.Filter (filter + 1) ∷ []
    pub hand : DispatchRecord
    pub same_saved : hand.saved ≡ r.saved
    pub list : arrives.is ≡ Searching hand ∷ is
    pub pointers : register state.cpu Rcx ≡ register state.cpu Rsp + 88
    pub untouched : IsUntouched s.memory state.memory

  -- the first handler takes over at once, in a frame of the list
  pub record TakesOver (s : State) (at : ℕ) (r : DispatchRecord) (turn : Turn)
      (found : List Handler) (exception : Exception) (resumption : Resumption) (above : Context)
      (is : List StackItem) (c : Configuration) : Type 0 where
    pub handler : Handler
    pub frame : ℕ
    pub address : ℕ
    pub turns : turn ≡ arrived t fs (accepted t s at r frame address)
    pub goes : (next : Next) → linear.search program next found exception resumption c
        ≡ accept program handler exception next c
    pub frame_small : frame < 2 ^ 64
    pub address_small : address < 2 ^ 64
    pub aimed : Aimed t fs program p handler.depth handler.target frame address above is
        (Waits c.frame ∷ c.below)

  -- nobody takes over
  pub record NobodyTakesOver (turn : Turn) (found : List Handler) (exception : Exception)
      (resumption : Resumption) (c : Configuration) : Type 0 where
    pub turns : turn ≡ Ends [] (ends.Unhandled (record { 0 = exception.code }))
    pub goes : (next : Next) → linear.search program next found exception resumption c
        ≡ Finished (Unhandled (record { 0 = exception.code })) c.events
