-- What a turn keeps.
use Rattle.std.proofs.Common.{◌≡◌, ℕ, ◌%◌, Bool, true, false, ◌==◌, List, Option, Some, None, Result, Ok, Err, ap, subst}
use Rattle.seh_num.specs.declared.width.Width.TheVariants.{W32, W64}
use Rattle.seh_num.specs.Widths.{signed}
use Rattle.flat_memory.specs.declared.access.RefusedAccess.{RefusedAccess}
use Rattle.flat_memory.specs.Memory.{Memory, loaded}
use Rattle.host_layout.specs.declared.service.Service.{Service}
use Rattle.host_layout.specs.declared.service.Service.TheVariants as services
use Rattle.host_layout.specs.Services.{service_at}
use Rattle.x64_instr.specs.declared.register.Reg.TheVariants.{Rcx, Rdx, Rsp}
use Rattle.x64_machine.specs.declared.outcome.Stop.TheVariants as stops
use Rattle.x64_machine.specs.Effect.{State, Answer, register, memory_after, step}
use Rattle.virtual_unwind.specs.CallerOf.{Functions}
use Rattle.seh_records.specs.Record.{fetched}
use Rattle.seh_walk.specs.declared.stop_cause.StopCause.{StopCause}
use Rattle.seh_walk.specs.Walk.{steps}
use Rattle.host_model.specs.declared.funclet.Funclet.{Funclet}
use Rattle.host_model.specs.Turns.{Turn, Continues, Ends}
use Rattle.host_model.specs.Funclets.{arrived}
use Rattle.host_model.specs.HostStep.{Host, Live, Ended, back, returned, returning, Printed, printed, walk_from, walked, walked_by, served, turned, turn, after, over}
use Rattle.x64_decoded.specs.Fixed.{KeepsFixed}
use Rattle.x64_decoded.proofs.Keeping.{keeps_same, protect_keeps}
use Rattle.x64_decoded.proofs.Effects.{steps_keep}
use Rattle.host_model.specs.FixedLaws.{TurnsKeepFixed, HostsKeepFixed}
use Rattle.host_model.proofs.FixedDispatching.{Keeps, raised_keeps, locally_keeps, filter_keeps, finally_keeps, vectored_keeps}

returned_keeps : (s : State) (x : Result ℕ RefusedAccess) (go : State → Turn)
    → ((a : ℕ) → Keeps s.memory (go (back s a))) → Keeps s.memory (returned s x go)
returned_keeps s (Ok a) go h = h a
returned_keeps s (Err e) go h = tt

returning_keeps : (s : State) (go : State → Turn)
    → ((a : ℕ) → Keeps s.memory (go (back s a))) → Keeps s.memory (returning s go)
returning_keeps s go h = returned_keeps s (loaded s.memory (register s.cpu Rsp) W64) go h

walked_keeps : (m : Memory) (u : State) (x : Printed) → KeepsFixed m u.memory
    → Keeps m (walked u x)
walked_keeps m u x k = go x.stop
  where
    go : (stop : Option StopCause) → Keeps m (walked_by u x.events stop)
    go None = k
    go (Some y) = tt

served_keeps : (t : Functions) (s : State) (o : Option Service) → Keeps s.memory (served t s o)
served_keeps t s (Some services.Put) = returning_keeps s _ (λ a. keeps_same s.memory)
served_keeps t s (Some services.Protect) = returning_keeps s _ (λ a. protect_keeps s.memory
    (register s.cpu Rcx) (signed W32 (register s.cpu Rdx)))
served_keeps t s (Some services.RaiseException) = returning_keeps s _ (λ a. raised_keeps t s _
    (register s.cpu Rdx % 2) None (back s a).cpu)
served_keeps t s (Some services.LocalUnwind) = returning_keeps s _ (λ a. locally_keeps t s
    (register s.cpu Rcx) (register s.cpu Rdx) (back s a).cpu)
served_keeps t s (Some services.FilterReturn) = filter_keeps t s (register s.cpu Rsp)
    (fetched s.memory (register s.cpu Rsp))
served_keeps t s (Some services.FinallyReturn) = finally_keeps t s (register s.cpu Rsp)
    (fetched s.memory (register s.cpu Rsp))
served_keeps t s (Some services.AddVectored) = returning_keeps s _ (λ a. keeps_same s.memory)
served_keeps t s (Some services.RemoveVectored) = returning_keeps s _ (λ a. keeps_same s.memory)
served_keeps t s (Some services.VectoredReturn) = vectored_keeps t s (register s.cpu Rsp)
    (fetched s.memory (register s.cpu Rsp))
served_keeps t s (Some services.Walk) = returning_keeps s _ (λ a. walked_keeps s.memory (back s a)
    (printed steps t s.memory (walk_from (back s a).cpu)) (keeps_same s.memory))
served_keeps t s (Some services.CSpecificHandler) = tt
served_keeps t s None = tt

turned_keeps : (t : Functions) (s : State) (x : Answer State)
    → KeepsFixed s.memory (memory_after s.memory x) → Keeps s.memory (turned t s x)
turned_keeps t s (Ok u) k = k
turned_keeps t s (Err (stops.Fault code access)) k = raised_keeps t s code 0 access s.cpu
turned_keeps t s (Err (stops.Host a)) k = served_keeps t s (service_at a)
turned_keeps t s (Err stops.Illegal) k = tt
turned_keeps t s (Err (stops.Guard a)) k = tt

arrived_keeps : (m : Memory) (t : Functions) (fs : List Funclet) (x : Turn) → Keeps m x
    → Keeps m (arrived t fs x)
arrived_keeps m t fs (Continues u es) k = k
arrived_keeps m t fs (Ends es e) k = tt

turn_keeps : (t : Functions) (fs : List Funclet) (s : State) → Keeps s.memory (turn t fs s)
unfolding turn
turn_keeps t fs s = arrived_keeps s.memory t fs (turned t s (step s))
    (turned_keeps t s (step s) (steps_keep s))

pub turns_keep : TurnsKeepFixed
turns_keep t fs s u shown e = subst (Keeps s.memory) e (turn_keeps t fs s)

-- ---- the host after a turn

same_state : (s u : State) (b : Bool) → over s b ≡ Live u → s ≡ u
same_state s u true e = absurd cc
same_state s u false e = live s u e
  where
    state_in : State → Host → State
    state_in d (Live s) = s
    state_in d (Ended e) = d

    live : (s u : State) → Live s ≡ Live u → s ≡ u
    live s u e = ap (state_in s) e

hosts_keep_by : (m : Memory) (x : Turn) (u : State) → Keeps m x → after x ≡ Live u
    → KeepsFixed m u.memory
hosts_keep_by m (Continues v es) u k e = subst (λ (w : State). KeepsFixed m w.memory)
    (same_state v u (v.cpu.rip == 0) e) k
hosts_keep_by m (Ends es end) u k e = absurd cc

pub hosts_keep : HostsKeepFixed
hosts_keep t fs s u e = hosts_keep_by s.memory (turn t fs s) u (turn_keeps t fs s) e
