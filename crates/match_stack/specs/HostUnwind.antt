-- What an unwinding of the host comes to, against that of linear code: the same `__finally` block,
-- or the same landing.
--
-- The main definition: `UnwoundAs`.
use Rattle.std.specs.Prelude.{◌≡◌, ◌⊎◌, ℕ, ◌+◌, ◌≤◌, true, List, [], ◌∷◌, length, Some}
use Rattle.seh_num.specs.declared.event.Event.{Event}
use Rattle.flat_memory.specs.Memory.{Memory}
use Rattle.x64_machine.specs.declared.cpu.Cpu.{Cpu}
use Rattle.x64_machine.specs.declared.context.Context.{Context}
use Rattle.virtual_unwind.specs.Contexts.{rsp}
use Rattle.virtual_unwind.specs.CallerOf.{Functions, distance}
use Rattle.seh_unwind.specs.declared.unwind_result.UnwindResult.{UnwindResult}
use Rattle.seh_unwind.specs.declared.unwind_result.UnwindResult.TheVariants as unwinds
use Rattle.host_model.specs.declared.funclet.Funclet.{Funclet}
use Rattle.host_model.specs.Funclets.{by_kind, arrivals}
use Rattle.linear_code.specs.declared.program.Region.{Region}
use Rattle.linear_code.specs.Program.{LinearProgram}
use Rattle.linear_machine.specs.Frames.{Frame, Target, Item, Waits, Unwinds, Store, Configuration, Seen, Next}
use Rattle.linear_machine.specs.Unwinding.{arrive, run_finally}
use Rattle.match_stack.specs.Stack.{StackFrame, StackItem, Framed, IsStack}
use Rattle.match_stack.specs.ImagePlan.{ImagePlan, IsFunclet}
use Rattle.match_stack.specs.ItemMatches.{Activation, locals_of, Reaches, IsAtRow, Aimed, Linked}
use Rattle.match_stack.specs.HostSearch.{IsWide, CanBeKept}

-- a store with the locals of these live activations
abbrev pub store_of : Store → List Activation → Store
store_of source acts = record source { activations = locals_of acts }

-- a body on top of what waits
abbrev pub on_top : Frame → List Item → Store → List Activation → List Event → Configuration
on_top b below source acts events =
    record { frame = b; below = below; store = store_of source acts; events = events }

-- where an unwinding goes, and on what: its frame and the address where it lands, the lowest stack
-- pointer, the depth where it begins, which is that of its activations with what is held, the
-- store and the events so far
pub record Course : Type 0 where
  pub target : Target
  pub frame : ℕ
  pub address : ℕ
  pub low : ℕ
  pub depth : ℕ
  pub source : Store
  pub events : List Event

module _ (t : Functions) (fs : List Funclet) (program : LinearProgram) (p : ImagePlan) where
  -- a `__finally` block of a body runs: the body waits with the regions that are left, and the
  -- target lies ahead, with what is held for the activations that were left
  pub record RunsBlock (m : Memory) (course : Course) (u : UnwindResult)
      (seen : Next → Seen) : Type 0 where
    pub block : ℕ
    pub held : ℕ
    pub more : course.target.held ≤ held
    pub left : List Region
    pub body : Frame
    pub below : List Item
    pub to : Context
    pub row : ℕ
    pub is : List StackItem
    pub acts : List Activation
    pub counted : length acts + held ≡ course.depth
    pub answer : u ≡ unwinds.Finally (p.funclet block) (rsp to) row to
    pub goes :
        (then : Next) → seen then
        ≡ run_finally program block true held
        (Unwinds left (record course.target { held = held }) ∷ Waits body ∷ below)
        then (on_top body below course.source acts course.events)
    pub stack : IsStack t m to is
    pub linked : Linked t fs program p m to is (Waits body ∷ below) acts
    pub at_row : IsAtRow t fs program p row (Waits body ∷ below) (Some left)
    pub aimed : Aimed t fs program p course.target.depth course.target.label course.frame
        course.address to is (Waits body ∷ below)
    pub reaches : Reaches t fs program p m body.body (rsp to) body.activation acts
    pub funclet : IsFunclet t fs program p body.body block
    pub named : (cpu : Cpu) → arrivals cpu (distance t.base (p.funclet block)) 1 fs
        ≡ by_kind cpu (block + 1) true ∷ []
    pub above : course.low ≤ rsp to
    pub kept : CanBeKept (rsp to) row to

  -- the unwinding lands in a body, which continues
  pub record Lands (m : Memory) (course : Course) (u : UnwindResult)
      (seen : Next → Seen) : Type 0 where
    pub held : ℕ
    pub more : course.target.held ≤ held
    pub body : Frame
    pub below : List Item
    pub to : Context
    pub framed : StackFrame
    pub is : List StackItem
    pub acts : List Activation
    pub counted : length acts + held ≡ course.depth
    pub answer : u ≡ unwinds.Land to
    pub goes : (then : Next) → seen then ≡ arrive (record course.target { held = held })
        course.target.code then (on_top body below course.source acts course.events)
    pub stack : IsStack t m to (Framed framed ∷ is)
    pub linked : Linked t fs program p m to (Framed framed ∷ is) (Waits body ∷ below) acts
    pub at_frame : course.frame ≡ rsp to
    pub at_address : course.address ≡ p.address body.body course.target.label
    pub lands : p.lands body.body course.target.label ≡ true
    pub silent : (cpu : Cpu) → arrivals cpu (distance t.base course.address) 1 fs ≡ []
    pub above : course.low ≤ rsp to
    pub wide : IsWide to.kept

  -- an unwinding runs a `__finally` block of a body that waits, with the regions that are left and
  -- its target ahead, or lands in the target's body
  abbrev pub UnwoundAs : Memory → Course → UnwindResult → (Next → Seen) → Type 0
  UnwoundAs m course u seen = RunsBlock m course u seen ⊎ Lands m course u seen
