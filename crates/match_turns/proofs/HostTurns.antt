-- The host's turns at its services, and steps of linear code that one of them matches.
use Rattle.std.proofs.Common.{◌≡◌, ℕ, ◌+◌, ◌%◌, ◌≤◌, Bool, cond, List, [], ◌∷◌, ◌++◌, Option, None, Ok, Err, refl, ap, ◌∙◌}
use Rattle.std.specs.Prelude.{Result}
use Rattle.match_turns.specs.Words.{W32, W64, Code, Event, low, address_of, service_at, in_host_page, RefusedAccess, executable, loaded, Rcx, Rdx, Rsp, leading, Context, State, Answer, register, hosted, execute, step, Functions, distance, filter_return, finally_return, Funclet, Turn, arrivals, arrived, raised, unwound_locally, finally_returned, back, returned, turned, turn, Instruction, LinearProgram, Configuration, Seen, Next, act, ImagePlan, filter_turn, drop_below, started, served, WalkGives, KeepsShadow, IsLive, Comes, IsMatched, Sites, turns_left, KnownNext, entry_turns, LiveCallers, KeepsWith, vectored_return, vectored_turn}
use Rattle.seh_records.specs.Record.{fetched}
use Rattle.host_layout.specs.declared.service.Service.TheVariants as services
use Rattle.x64_machine.specs.declared.outcome.Stop.TheVariants as stops
use Rattle.match_turns.proofs.Lemmas.{host_keeps, fault_keeps}
use Rattle.match_turns.specs.DispatchOutcome.{Represents, Shows}
use Rattle.match_turns.specs.AskOutcome.{KeepsHere}
use Rattle.match_turns.proofs.Dispatches.DispatchOutcomeSteps.{outcome_same, matched_by_turn}

module _ (t : Functions) (fs : List Funclet) where
  -- what a step is where RIP is in the host's page
  abbrev hosted_turn : State → ℕ → Turn
  hosted_turn s a = arrived t fs (turned t s (cond (in_host_page a) (Err (hosted a (service_at a)))
      (execute s (leading (executable s.memory 15 s.cpu.rip)))))

  pub at_service : (s : State) (a : ℕ) → s.cpu.rip ≡ a → turn t fs s ≡ hosted_turn s a
  unfolding turn step
  at_service s a e = ap (hosted_turn s) e

  -- at the return address of a filter, and of a `__finally` block
  pub filter_turns : (s : State) → s.cpu.rip ≡ filter_return
      → turn t fs s ≡ arrived t fs (filter_turn t s)
  filter_turns s e = at_service s filter_return e

  -- and of a vectored handler
  pub vectored_turns : (s : State) → s.cpu.rip ≡ vectored_return
      → turn t fs s ≡ arrived t fs (vectored_turn t s)
  vectored_turns s e = at_service s vectored_return e

  pub finally_turns : (s : State) → s.cpu.rip ≡ finally_return
      → turn t fs s ≡ arrived t fs (finally_returned t s (register s.cpu Rsp)
      (fetched s.memory (register s.cpu Rsp)))
  finally_turns s e = at_service s finally_return e

  -- RaiseException: its code is ECX, bit 0 of its flags that of EDX, and the state after its return
  -- is saved
  pub raise_turns : (s : State) (ret : ℕ) → s.cpu.rip ≡ address_of services.RaiseException
      → loaded s.memory (register s.cpu Rsp) W64 ≡ Ok ret
      → turn t fs s ≡ arrived t fs (raised t s (record { 0 = low W32 (register s.cpu Rcx) })
      (register s.cpu Rdx % 2) None (back s ret).cpu)
  raise_turns s ret e w = at_service s (address_of services.RaiseException) e
      ∙ ap (λ (x : Result ℕ RefusedAccess). arrived t fs
      (returned s x (λ u. raised t s (record { 0 = low W32 (register s.cpu Rcx) })
      (register s.cpu Rdx % 2) None u.cpu))) w

  -- a local unwind: to the target in RDX, of the frame in RCX
  pub local_unwind_turns : (s : State) (ret : ℕ) → s.cpu.rip ≡ address_of services.LocalUnwind
      → loaded s.memory (register s.cpu Rsp) W64 ≡ Ok ret
      → turn t fs s ≡ arrived t fs (unwound_locally t s (register s.cpu Rcx) (register s.cpu Rdx)
      (back s ret).cpu)
  local_unwind_turns s ret e w = at_service s (address_of services.LocalUnwind) e
      ∙ ap (λ (x : Result ℕ RefusedAccess). arrived t fs
      (returned s x (λ u. unwound_locally t s (register s.cpu Rcx) (register s.cpu Rdx) u.cpu))) w

  -- an instruction that faults raises an exception, and its own state is saved
  pub fault_turns : (s : State) (code : Code) (access : Option (Bool × ℕ))
      → step s ≡ Err (stops.Fault code access)
      → turn t fs s ≡ arrived t fs (raised t s code 0 access s.cpu)
  unfolding turn
  fault_turns s code access e = ap (λ (x : Answer State). arrived t fs (turned t s x)) e

  -- a turn there keeps the shadow, and so does a fault
  keeps_at : (s : State) (a : ℕ) (cs : List Context) → step s ≡ Err (stops.Host a)
      → WalkGives t s cs
      → (u : State) (es : List Event) → arrivals u.cpu (distance t.base u.cpu.rip) 1 fs ≡ es
      → WalkGives t u (drop_below (register u.cpu Rsp) (started s u es (served (service_at a) cs)))
      → KeepsShadow t fs s u
  keeps_at s a cs e before u es arrives after = host_keeps t fs s u a es cs
      (drop_below (register u.cpu Rsp) (started s u es (served (service_at a) cs))) e arrives before
      after refl

  service_step : (s : State) (a : ℕ) → s.cpu.rip ≡ a
      → step s ≡ cond (in_host_page a) (Err (hosted a (service_at a)))
      (execute s (leading (executable s.memory 15 s.cpu.rip)))
  unfolding step
  service_step s a e = ap (λ b. cond (in_host_page b) (Err (hosted b (service_at b)))
      (execute s (leading (executable s.memory 15 s.cpu.rip)))) e

  -- ---- steps of linear code

  module _ (program : LinearProgram) (p : ImagePlan) (q : Sites) where
    pub filter_return_keeps_here : (s : State) (live : LiveCallers) → s.cpu.rip ≡ filter_return
        → WalkGives t s live.callers → KeepsHere t fs program p q s live
    filter_return_keeps_here s live e before = λ u es arrives after. keeps_at s filter_return
        live.callers (service_step s filter_return e) before u es arrives after

    pub vectored_return_keeps_here : (s : State) (live : LiveCallers)
        → s.cpu.rip ≡ vectored_return → WalkGives t s live.callers
        → KeepsHere t fs program p q s live
    vectored_return_keeps_here s live e before = λ u es arrives after. keeps_at s vectored_return
        live.callers (service_step s vectored_return e) before u es arrives after

    pub finally_return_keeps : (s : State) (live : LiveCallers) → s.cpu.rip ≡ finally_return
        → register s.cpu Rsp ≤ live.low → WalkGives t s live.callers
        → KeepsWith t fs program p q s live
    finally_return_keeps s live e le before = λ u es arrives after. keeps_at s finally_return
        live.callers (service_step s finally_return e) before u es arrives (after s le)

    -- the call of a service that dispatches is over
    pub raise_keeps : (s : State) (c : Context) (live : LiveCallers)
        → s.cpu.rip ≡ address_of services.RaiseException
        → WalkGives t s (c ∷ live.callers) → KeepsHere t fs program p q s live
    raise_keeps s c live e before = λ u es arrives after. keeps_at s
        (address_of services.RaiseException) (c ∷ live.callers)
        (service_step s (address_of services.RaiseException) e) before u es arrives after

    pub local_unwind_keeps : (s : State) (c : Context) (live : LiveCallers)
        → s.cpu.rip ≡ address_of services.LocalUnwind → register s.cpu Rsp ≤ live.low
        → WalkGives t s (c ∷ live.callers) → KeepsWith t fs program p q s live
    local_unwind_keeps s c live e le before = λ u es arrives after. keeps_at s
        (address_of services.LocalUnwind) (c ∷ live.callers)
        (service_step s (address_of services.LocalUnwind) e) before u es arrives (after s le)

    pub raised_keeps : (s : State) (code : Code) (access : Option (Bool × ℕ)) (live : LiveCallers)
        → step s ≡ Err (stops.Fault code access)
        → WalkGives t s live.callers → KeepsHere t fs program p q s live
    raised_keeps s code access live e before = λ u es arrives after. fault_keeps t fs s u code
        access es live.callers (drop_below (register u.cpu Rsp) (started s u es live.callers)) e
        arrives before after refl

    -- silent turns lead to a turn of the host, which shows what the step shows
    pub matched_when_shown : (turns_per_step k left : ℕ) (s u : State) (c : Configuration)
        (i : Instruction)
        (x : Turn) (before : List Event) (seen : Next → Seen) (live : LiveCallers)
        → Comes t fs k s [] u → IsLive u → turn t fs u ≡ x → KeepsWith t fs program p q u live
        → Shows t fs program p q x before seen c.events left live
        → ((next : Next) → act program i next c ≡ seen next)
        → k + 1 + entry_turns + left ≤ turns_per_step + turns_left c
        → KnownNext program c i
        → IsMatched t fs program turns_per_step turns_left (Represents t fs program p q) s c i
    matched_when_shown turns_per_step k left s u c i x before seen live silent going e keeps shows
        acts enough
        known =
        matched_by_turn t fs program p q turns_per_step k left s u c i before shows.further silent
        going
        (e ∙ shows.turns) enough known live keeps
        (outcome_same t fs program p q shows.further shows.further seen
        (λ next. act program i next c) (c.events ++ before) left live refl acts shows.outcome)
