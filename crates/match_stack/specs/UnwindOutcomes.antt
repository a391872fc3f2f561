-- What a turn that unwinds comes to, against the unwinding of linear code.
use Rattle.std.specs.Prelude.{◌≡◌, ℕ, ◌+◌, ◌≤◌, true, List, [], ◌∷◌, length, Option, Some, None}
use Rattle.seh_num.specs.declared.event.Event.{Event}
use Rattle.seh_num.specs.declared.event.Event.TheVariants as events
use Rattle.x64_machine.specs.declared.context.Context.{Context}
use Rattle.x64_machine.specs.declared.cpu.Cpu.{Cpu}
use Rattle.x64_instr.specs.declared.register.Reg.TheVariants.{Rdx}
use Rattle.x64_machine.specs.Effect.{State, register}
use Rattle.virtual_unwind.specs.Contexts.{rsp}
use Rattle.virtual_unwind.specs.CallerOf.{Functions, distance}
use Rattle.seh_records.specs.declared.dispatch.DispatchRecord.{DispatchRecord}
use Rattle.seh_walk.specs.Walk.{walk_in, steps}
use Rattle.seh_unwind.specs.declared.unwind_result.UnwindResult.TheVariants as results
use Rattle.seh_unwind.specs.Unwind.{unwind}
use Rattle.host_model.specs.declared.funclet.Funclet.{Funclet}
use Rattle.host_model.specs.Turns.{Turn, Continues}
use Rattle.host_model.specs.Funclets.{arrivals}
use Rattle.host_model.specs.Dispatch.{at_landing}
use Rattle.linear_code.specs.declared.program.Region.{Region}
use Rattle.linear_code.specs.Program.{LinearProgram}
use Rattle.linear_machine.specs.Frames.{Store, Frame, Target, Item, Waits, Unwinds, Next}
use Rattle.linear_machine.specs.Unwinding as linear
use Rattle.linear_machine.specs.Unwinding.{arrive, run_finally}
use Rattle.match_stack.specs.Stack.{StackFrame, StackItem, Framed, Unwinding, IsStack}
use Rattle.match_stack.specs.ImagePlan.{ImagePlan}
use Rattle.match_stack.specs.ItemMatches.{Activation}
use Rattle.match_stack.specs.StackRecords.{On, IsUntouched}
use Rattle.match_stack.specs.HostUnwind.{store_of, on_top}
use Rattle.match_stack.specs.DispatchStates.{IsWellFormed, Arrives, host_list}

-- RAX where an unwinding lands, and what is shown: for an exception its code
abbrev pub landing_value : Option ℕ → ℕ
landing_value None = 0
landing_value (Some code) = code

-- an `__except` block shows that it took over
abbrev pub landing_events : Option ℕ → List Event
landing_events None = []
landing_events (Some code) = events.Except (record { 0 = code }) ∷ []

-- what is unwound: to a target, over a list with the regions left of its first body, and on what
pub record Unwound : Type 0 where
  pub target : Target
  pub items : List Item
  pub left : Option (List Region)
  pub acts : List Activation
  pub source : Store
  pub shown : List Event

module _ (t : Functions) (fs : List Funclet) (program : LinearProgram) (p : ImagePlan) where
  -- a `__finally` block of a body begins, unless linear code is too deep; each activation that was
  -- left is held by the target; the record in the stack has come to that body's frame, from which
  -- the list is there
  pub record BlockBegins (s : State) (r : DispatchRecord) (turn : Turn) (w : Unwound) : Type 0 where
    pub block : ℕ
    pub held : ℕ
    pub more : w.target.held ≤ held
    pub body : Frame
    pub rest : List Region
    pub below : List Item
    pub outer : List Activation
    pub counted : length outer + held ≡ length w.acts + w.target.held
    pub state : State
    pub turns : turn ≡ Continues state (events.Finally (block + 1) true ∷ [])
    pub goes :
        (next : Next) → linear.unwind program next w.target w.items w.left w.shown
        (store_of w.source w.acts)
        ≡ run_finally program block true held
        (Unwinds rest (record w.target { held = held }) ∷ Waits body ∷ below) next
        (on_top body below w.source outer w.shown)
    pub arrives : Arrives t fs program p state block body.activation 1
        (Unwinds rest (record w.target { held = held }) ∷ Waits body ∷ below) outer
        (host_list p w.source)
    pub untouched : IsUntouched s.memory state.memory
    pub named : arrivals state.cpu (distance t.base state.cpu.rip) 1 fs
        ≡ events.Finally (block + 1) true ∷ []
    pub to : Context
    pub row : ℕ
    pub inner : List StackItem
    pub hand : DispatchRecord
    pub answer : unwind steps t s.memory r.target_frame r.target (walk_in r)
        ≡ results.Finally (p.funclet block) (rsp to) row to
    pub stack : IsStack t s.memory to inner
    pub list : arrives.is ≡ Unwinding hand ∷ inner
    pub same_walk : hand.walk ≡ to
    pub frame : register state.cpu Rdx ≡ rsp to

  -- it lands in a body of the list, in that one's frame
  pub record LandsThere (s : State) (r : DispatchRecord) (turn : Turn) (w : Unwound) : Type 0 where
    pub held : ℕ
    pub more : w.target.held ≤ held
    pub body : Frame
    pub below : List Item
    pub to : Context
    pub framed : StackFrame
    pub is : List StackItem
    pub outer : List Activation
    pub answer : unwind steps t s.memory r.target_frame r.target (walk_in r) ≡ results.Land to
    pub silent : (cpu : Cpu) → arrivals cpu (distance t.base r.target) 1 fs ≡ []
    pub turns : turn ≡ Continues (at_landing s to (landing_value w.target.code) r.target)
        (landing_events w.target.code)
    pub goes :
        (next : Next) → linear.unwind program next w.target w.items w.left w.shown
        (store_of w.source w.acts)
        ≡ arrive (record w.target { held = held }) w.target.code next
        (on_top body below w.source outer w.shown)
    pub at_frame : r.target_frame ≡ rsp to
    pub at_address : r.target ≡ p.address body.body w.target.label
    pub lands : p.lands body.body w.target.label ≡ true
    pub on : On t fs program p s.memory to (Framed framed ∷ is) (Waits body ∷ below) outer
    pub well_formed : IsWellFormed (host_list p w.source)
        (at_landing s to (landing_value w.target.code) r.target)
