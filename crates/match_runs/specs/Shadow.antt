-- The shadow of a run: of each routine that has not returned, innermost first, what its caller goes
-- on with. It is kept by what each turn does, with no look at unwind codes: of the tables it takes
-- the funclets alone, which scope records name, to know where one starts.
--
-- The main definitions: `WalkGives`, `caller_at`, `shadow_after`, `KeepsShadow`.
use Rattle.std.specs.Prelude.{◌≡◌, ℕ, zero, suc, ◌+◌, ◌≤◌, Bool, true, false, ◌&&◌, nat_lt, ◌==◌, List, [], ◌∷◌, map, drop, option_map, Option, Some, None, Ok, Err, slice_set}
use Rattle.seh_num.specs.declared.event.Event.{Event}
use Rattle.seh_num.specs.declared.event.Event.TheVariants as events
use Rattle.seh_num.specs.declared.size.TheConstants.{LONGEST_INSTRUCTION}
use Rattle.host_layout.specs.declared.service.Service.{Service}
use Rattle.host_layout.specs.declared.service.Service.TheVariants as services
use Rattle.host_layout.specs.Services.{service_at}
use Rattle.flat_memory.specs.Memory.{Memory, number_at, executable}
use Rattle.x64_instr.specs.declared.register.Reg.TheVariants.{Rdx, Rsp}
use Rattle.x64_instr.specs.declared.instruction.Instr.{Instr}
use Rattle.x64_instr.specs.declared.instruction.Instr.TheVariants as instrs
use Rattle.x64_instr.specs.Spelling.{leading}
use Rattle.x64_machine.specs.declared.context.Context.{Context}
use Rattle.x64_machine.specs.declared.outcome.Stop.TheVariants as stops
use Rattle.x64_machine.specs.Contexts.{context_of}
use Rattle.x64_machine.specs.Effect.{State, Answer, register, step}
use Rattle.virtual_unwind.specs.Contexts.{rsp}
use Rattle.virtual_unwind.specs.CallerOf.{Functions, distance}
use Rattle.seh_walk.specs.declared.walk.WalkState.{WalkState}
use Rattle.seh_walk.specs.Walk.{vectored_return}
use Rattle.host_model.specs.declared.funclet.Funclet.{Funclet}
use Rattle.host_model.specs.Funclets.{arrivals}
use Rattle.match_runs.specs.Walked.{LiveFrame, walked}

-- ---- what a turn does to the list

-- at a routine's first byte, what its caller continues with: the return address at RSP, the stack
-- pointer after the return, and the nonvolatile registers (Microsoft x64 ABI, "Caller/callee saved
-- registers")
abbrev pub caller_at : State → Context
caller_at s =
    record {
      rip = number_at s.memory.byte 8 (register s.cpu Rsp);
      kept = slice_set (context_of s.cpu).kept 0 (register s.cpu Rsp + 8);
    }

-- the routines that were entered below a stack pointer are gone: their return addresses were 8
-- bytes below where their callers continue
-- (the stack pointers of the list rise from the first entry on, so those to drop are the first)
abbrev pub if_below : List Context → List Context → Bool → List Context
if_below others cs true = others
if_below others cs false = cs

-- callers whose frames are left are dropped
abbrev pub drop_below : ℕ → List Context → List Context
drop_below sp [] = []
drop_below sp (c ∷ cs) = if_below (drop_below sp cs) (c ∷ cs) (nat_lt (rsp c) (sp + 8))

-- a call enters a routine
abbrev pub calls : Instr → Bool
calls (instrs.Call to) = true
calls i = false

-- the instruction is a call
abbrev pub is_call : Option (Instr × ℕ) → Bool
is_call None = false
is_call (Some x) = calls x.0

-- a call adds its caller
abbrev pub entered : State → List Context → Bool → List Context
entered u cs true = caller_at u ∷ cs
entered u cs false = cs

-- the dispatcher calls a vectored handler with its own return address for them, below where the
-- stack pointer was; no event shows it
abbrev pub calls_vectored : State → State → Bool
calls_vectored s u =
    nat_lt (register u.cpu Rsp) (register s.cpu Rsp)
    && (number_at u.memory.byte 8 (register u.cpu Rsp) == vectored_return)

-- what the dispatcher starts is entered too: a filter, on all that is live; a `__finally` block, in
-- an unwinding that has left what was below its frame, which is in RDX; a vectored handler
abbrev pub started : State → State → List Event → List Context → List Context
started s u (events.Filter k ∷ es) cs = caller_at u ∷ cs
started s u (events.Finally k flag ∷ es) cs = caller_at u ∷ drop_below (register u.cpu Rdx) cs
started s u es cs = entered u cs (calls_vectored s u)

-- RaiseException and `_local_unwind` have been called too: their own call is over, where they
-- dispatch
abbrev pub served : Option Service → List Context → List Context
served (Some services.RaiseException) cs = drop 1 cs
served (Some services.LocalUnwind) cs = drop 1 cs
served o cs = cs

-- by what is at RIP: an instruction, a service of the host or one of its return addresses, an
-- instruction that faults
abbrev pub by_step : State → State → List Event → List Context → Answer State → List Context
by_step s u es cs (Ok v) =
    entered u cs (is_call (leading (executable s.memory LONGEST_INSTRUCTION s.cpu.rip)))
by_step s u es cs (Err (stops.Host a)) = started s u es (served (service_at a) cs)
by_step s u es cs (Err e) = started s u es cs

-- what a turn makes of a list of these. A call adds one; RaiseException and `_local_unwind` drop
-- that of their own call. A routine that the dispatcher starts adds one: a filter, a `__finally`
-- block once those below its frame are dropped, and a vectored handler. No event shows that one:
-- RSP falls, and the dispatcher's return address for vectored handlers is there (`calls_vectored`).
-- After every turn those that were entered below RSP are dropped.
unfoldable pub shadow_after : Functions → List Funclet → State → State → List Context → List Context
shadow_after t fs s u cs =
    drop_below (register u.cpu Rsp) (by_step s u (arrivals u.cpu (distance t.base u.cpu.rip) 1 fs)
    cs (step s))

-- ---- what the walk has to do with it

-- the callers of live frames
abbrev pub callers_of : Option (List LiveFrame) → Option (List Context)
callers_of frames = option_map (map (λ (f : LiveFrame). f.caller)) frames

-- a walk gives these callers, one frame after another, and then RIP 0
pub record GivesCallers (t : Functions) (m : Memory) (w : WalkState)
    (cs : List Context) : Type 0 where
  pub steps : ℕ
  pub gives : (n : ℕ) → steps ≤ n → callers_of (walked n t m w) ≡ Some cs

-- the walk from a state gives these callers, one after another
abbrev pub WalkGives : Functions → State → List Context → Type 0
WalkGives t s cs = GivesCallers t s.memory (record { context = context_of s.cpu; row = 0 }) cs

-- where the walk gave the shadow before a turn, it does so after it
abbrev pub KeepsShadow : Functions → List Funclet → State → State → Type 0
KeepsShadow t fs s u =
    (cs : List Context) → WalkGives t s cs → WalkGives t u (shadow_after t fs s u cs)

-- each of so many instructions that are run from a state keeps it
abbrev pub AllKeep : Functions → List Funclet → ℕ → State → Type 0
AllKeep t fs zero s = Unit {0}
AllKeep t fs (suc n) s = (u : State) → step s ≡ Ok u → KeepsShadow t fs s u × AllKeep t fs n u
