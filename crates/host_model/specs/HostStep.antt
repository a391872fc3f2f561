-- One turn of the host: an instruction, a service, or the dispatch between funclets and vectored
-- handlers.
--
-- `printed`, `walking`: a printed walk from the caller of `walk`: an event for each control address
-- that is in a row of the image's names, with the row's number, and what stops the walk.
-- `functions_in` has the image's function table and these rows.
--
-- The main definitions: `turned`, `adding`, `removing`, `turn`.
use Rattle.std.specs.Prelude.{ℕ, ◌+◌, ◌%◌, ◌^◌, Bool, true, false, not, ◌==◌, List, [], ◌∷◌, map, is_some, Option, Some, None, Result, Ok, Err}
use Rattle.std.specs.List.{filter_map}
use Rattle.seh_num.specs.declared.width.Width.TheVariants.{W32, W64}
use Rattle.seh_num.specs.declared.event.Event.{Event}
use Rattle.seh_num.specs.declared.event.Event.TheVariants as events
use Rattle.seh_num.specs.declared.end.Reason.TheVariants as reasons
use Rattle.seh_num.specs.declared.end.RunEnd.{RunEnd}
use Rattle.seh_num.specs.declared.end.RunEnd.TheVariants as ends
use Rattle.seh_num.specs.Widths.{low, signed}
use Rattle.flat_memory.specs.declared.access.RefusedAccess.{RefusedAccess}
use Rattle.flat_memory.specs.Memory.{Memory, loaded, rights_asked, protected}
use Rattle.x64_instr.specs.declared.register.Reg.TheVariants.{Rax, Rcx, Rdx, Rsp}
use Rattle.x64_machine.specs.declared.outcome.Stop.TheVariants as stops
use Rattle.host_layout.specs.declared.service.Service.{Service}
use Rattle.host_layout.specs.declared.service.Service.TheVariants as services
use Rattle.host_layout.specs.Services.{service_at}
use Rattle.x64_machine.specs.declared.cpu.Cpu.{Cpu}
use Rattle.x64_machine.specs.Contexts.{context_of}
use Rattle.x64_machine.specs.Effect.{State, Answer, register, with_register, with_rip, step}
use Rattle.virtual_unwind.specs.CallerOf.{Functions}
use Rattle.seh_records.specs.Record.{fetched}
use Rattle.seh_walk.specs.declared.stop_cause.StopCause.{StopCause}
use Rattle.seh_walk.specs.declared.walk.WalkState.{WalkState}
use Rattle.seh_walk.specs.Walk.{stop_cause, steps}
use Rattle.seh_walk.specs.Controls.{Controls, controls, number_at}
use Rattle.host_model.specs.declared.funclet.Funclet.{Funclet}
use Rattle.host_model.specs.Turns.{Turn, Continues, Ends, stopped, shown_in}
use Rattle.host_model.specs.Funclets.{arrived}
use Rattle.host_model.specs.Dispatch.{raised, unwound_locally, filter_returned, finally_returned, vectored_returned}
use Rattle.vectored_list.specs.Lists.{is_listed, can_be_added, added, removed}

-- ---- services

-- the state after a service's return
abbrev pub back : State → ℕ → State
back s a =
    with_rip (record s { cpu = with_register W64 s.cpu Rsp ((register s.cpu Rsp + 8) % 2 ^ 64) }) a

-- a service that returns reads its return address at [RSP] first; where it can't, it does nothing
-- else
abbrev pub returned : State → Result ℕ RefusedAccess → (State → Turn) → Turn
returned s (Ok a) go = go (back s a)
returned s (Err refused) go = stopped (stop_cause reasons.Unreadable (register s.cpu Rsp))

-- a service that returns
abbrev pub returning : State → (State → Turn) → Turn
returning s go = returned s (loaded s.memory (register s.cpu Rsp) W64) go

-- `put` shows RCX as a signed number, and leaves all other registers
abbrev pub put : State → Turn
put s = returning s (λ u. Continues u (events.Put (signed W64 (register s.cpu Rcx)) ∷ []))

-- `protect` answers in RAX
abbrev pub answer_number : Bool → ℕ
answer_number true = 1
answer_number false = 0

-- whether the pages were allowed, in RAX, and memory with their new rights
abbrev pub protecting : State → State → Turn
protecting s u =
    Continues (record u {
      cpu = with_register W64 u.cpu Rax
          (answer_number (is_some (rights_asked (register s.cpu Rcx)
          (signed W32 (register s.cpu Rdx)))));
      memory = protected u.memory (register s.cpu Rcx) (signed W32 (register s.cpu Rdx));
    }) []

-- whether the list of vectored handlers has changed, in RAX, and the list
abbrev pub listed : State → Bool → List ℕ → Turn
listed u answer vectored =
    Continues (record u {
      cpu = with_register W64 u.cpu Rax (answer_number answer);
      vectored = vectored;
    }) []

-- the handler in RDX comes into it, in front of the others where ECX isn't 0
abbrev pub adding : State → State → Turn
adding s u =
    let handler = register s.cpu Rdx in
    listed u (can_be_added handler u.vectored)
    (added (not (low W32 (register s.cpu Rcx) == 0)) handler u.vectored)

-- the handler in RCX is taken out
abbrev pub removing : State → State → Turn
removing s u =
    let handler = register s.cpu Rcx in
    listed u (is_listed handler u.vectored) (removed handler u.vectored)

-- what a printed walk shows, and what stops it, if anything does
pub record Printed : Type 0 where
  pub events : List Event
  pub stop : Option StopCause

-- the function of each frame whose control address is in a row of the image's names, the innermost
-- first
abbrev pub printed_of : Functions → Controls → Printed
printed_of t x =
    record { events = map events.At (filter_map (number_at t) x.addresses); stop = x.stop }

abbrev pub printed : ℕ → Functions → Memory → WalkState → Printed
printed n t m w = printed_of t (controls n t m w)

-- a walk that is stopped stops the run
abbrev pub walked_by : State → List Event → Option StopCause → Turn
walked_by u shown None = Continues u shown
walked_by u shown (Some y) = Ends shown (ends.Stopped y.reason y.address)

abbrev pub walked : State → Printed → Turn
walked u x = walked_by u x.events x.stop

-- `walk` walks from its caller
abbrev pub walk_from : Cpu → WalkState
walk_from c = record { context = context_of c; row = 0 }

abbrev pub walking : Functions → State → State → Turn
walking t s u = walked u (printed steps t s.memory (walk_from u.cpu))

-- no instruction can be run at RIP
abbrev pub illegal : State → Turn
illegal s = stopped (stop_cause reasons.Illegal s.cpu.rip)

-- what each service does; the language handler can't be called
abbrev pub served : Functions → State → Option Service → Turn
served t s (Some services.Put) = put s
served t s (Some services.Protect) = returning s (protecting s)
served t s (Some services.RaiseException) =
    returning s (λ u. raised t s (record { 0 = low W32 (register s.cpu Rcx) })
    (register s.cpu Rdx % 2) None u.cpu)
served t s (Some services.LocalUnwind) =
    returning s (λ u. unwound_locally t s (register s.cpu Rcx) (register s.cpu Rdx) u.cpu)
served t s (Some services.FilterReturn) =
    filter_returned t s (register s.cpu Rsp) (fetched s.memory (register s.cpu Rsp))
served t s (Some services.FinallyReturn) =
    finally_returned t s (register s.cpu Rsp) (fetched s.memory (register s.cpu Rsp))
served t s (Some services.AddVectored) = returning s (adding s)
served t s (Some services.RemoveVectored) = returning s (removing s)
served t s (Some services.VectoredReturn) =
    vectored_returned t s (register s.cpu Rsp) (fetched s.memory (register s.cpu Rsp))
served t s (Some services.Walk) = returning s (walking t s)
served t s (Some services.CSpecificHandler) = illegal s
served t s None = illegal s

-- ---- a turn

-- what a turn does: an instruction; a service, which reads its return address first; or all the
-- dispatch work between two funclets or vectored handlers. A fault saves the state before the
-- instruction and is raised; an access of the guard ends the run at the stack limit; where no
-- instruction can be run it is stopped as Illegal.
abbrev pub turned : Functions → State → Answer State → Turn
turned t s (Ok u) = Continues u []
turned t s (Err (stops.Fault code access)) = raised t s code 0 access s.cpu
turned t s (Err (stops.Host a)) = served t s (service_at a)
turned t s (Err stops.Illegal) = illegal s
turned t s (Err (stops.Guard a)) = Ends [] (ends.StackLimit a)

-- with the event of the funclet at whose first byte RIP arrives
unfoldable pub turn : Functions → List Funclet → State → Turn
turn t fs s = arrived t fs (turned t s (step s))

-- ---- the host, which keeps how its run ended

pub data Host : Type 0 where
  Live : State → Host
  Ended : RunEnd → Host

-- a state whose RIP is 0 has ended, with the low 32 bits of RAX
abbrev pub over : State → Bool → Host
over s true = Ended (ends.Exit (signed W32 (register s.cpu Rax)))
over s false = Live s

-- the host at a state
abbrev pub host : State → Host
host s = over s (s.cpu.rip == 0)

-- the host after a turn
abbrev pub after : Turn → Host
after (Continues t shown) = host t
after (Ends shown end) = Ended end

-- a turn of a host; one that has ended stays as it is, and shows nothing
abbrev pub next : Functions → List Funclet → Host → Host
next t fs (Live s) = after (turn t fs s)
next t fs (Ended e) = Ended e

-- what a turn of a host shows
abbrev pub shown_next : Functions → List Funclet → Host → List Event
shown_next t fs (Live s) = shown_in (turn t fs s)
shown_next t fs (Ended e) = []

-- how a host has ended, if it has
abbrev pub end_of : Host → Option RunEnd
end_of (Live s) = None
end_of (Ended e) = Some e
